-- 01, section 3: "measure gives the length, render writes", what each answers and the bytes that render leaves; in a mode of 02, or as 01 has it.
use Rattle.std.specs.Prelude.{ℕ, ◌≡◌, List, [], ◌∷◌, ◌++◌, ltb, length, drop, Result, Ok, Err}
use Rattle.laws.specs.First.{first}
use Rattle.mode.specs.Options.{plain}
use Rattle.mode.specs.declared.Edition.{Edition}
use Rattle.mode.specs.declared.Edition.TheVariants.{Crate}
use Rattle.mode.specs.declared.Mode.{Mode}
use Rattle.tree.specs.Check as tree
use Rattle.tree.specs.Check.{Answer, ChecksIn}
use Rattle.tokens.specs.Tokens.{text_of}
use Rattle.tokens.specs.Tokens.{in_edition}
use Rattle.render.specs.declared.Refusal.{Refusal}
use Rattle.render.specs.declared.Refusal.TheVariants.{Tree, NoRoom}

-- what a call comes to: so many bytes are measured or written, or a refusal
abbrev pub Outcome : Type 0
Outcome = Result ℕ Refusal

-- the text of a tree t, whose parts are of a text x, in an edition; and as 01 has it, in the crate's
abbrev pub text_in : Edition → List ℕ → List ℕ → List ℕ
text_in v t x = text_of (in_edition t x v)

abbrev pub text_from : List ℕ → List ℕ → List ℕ
text_from = text_in Crate

-- where the check refuses, its refusal
abbrev pub or_refused : Answer → Outcome → Outcome
or_refused (Ok u) o = o
or_refused (Err r) o = Err (Tree r)

-- "Order: 1, 2, then the records by index ..; then 7; then 8". Where the check answers a: for a text, and for an output of so many bytes
unfoldable pub measured : Answer → List ℕ → Outcome
measured a text = or_refused a (Ok (length text))

unfoldable pub rendered : Answer → ℕ → List ℕ → Outcome
rendered a size text = or_refused a (first ((ltb size (length text), Err (NoRoom (length text))) ∷ []) (Ok (length text)))

-- "A refusal writes nothing; success writes exactly the bytes and nothing beyond them."
unfoldable pub output_after : Outcome → List ℕ → List ℕ → List ℕ
output_after (Ok n) text out = text ++ drop n out
output_after (Err (Tree r)) text out = out
output_after (Err (NoRoom n)) text out = out

-- what measure does with a tree t and a text x
pub record MeasuresIn (m : Mode) (t x : List ℕ) (outcome : Outcome) : Type 0 where
  pub answer : Answer
  pub checks : ChecksIn m t x answer
  pub answers : outcome ≡ measured answer (text_in m.edition t x)

-- what render does with them and an output
pub record RendersIn (m : Mode) (t x out : List ℕ) (outcome : Outcome) (out' : List ℕ) : Type 0 where
  pub answer : Answer
  pub checks : ChecksIn m t x answer
  pub answers : outcome ≡ rendered answer (length out) (text_in m.edition t x)
  pub writes : out' ≡ output_after outcome (text_in m.edition t x) out

-- 01 as it is: the switch is off, and the edition is the crate's
abbrev pub Measures : List ℕ → List ℕ → Outcome → Type 0
Measures = MeasuresIn plain

abbrev pub Renders : List ℕ → List ℕ → List ℕ → Outcome → List ℕ → Type 0
Renders = RendersIn plain

-- the number and the place of each outcome
abbrev pub number_of : Outcome → ℕ
number_of (Ok n) = 0
number_of (Err (Tree r)) = tree.number_of (Err r)
number_of (Err (NoRoom n)) = 8

abbrev pub place_of : Outcome → ℕ
place_of (Ok n) = n
place_of (Err (Tree r)) = tree.place_of (Err r)
place_of (Err (NoRoom n)) = n
