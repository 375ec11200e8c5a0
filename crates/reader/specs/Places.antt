-- The reading by places of a text: where what is taken from a place on ends. Only private contracts cite it.
use Rattle.std.specs.Prelude.{ℕ, ◌+◌, ◌≤◌, ◌≡◌, List, [], ◌∷◌, Bool, false, ◌||◌, ◌&&◌, leb, length, drop, Option, Some, None}
use Rattle.laws.specs.Among.{among}
use Rattle.reading.specs.Bytes.{blanks}
use Rattle.reading.specs.Number.{Taken, taken, unclosed, takes}
use Rattle.reading.specs.Reading.{Read, read}
use Rattle.reader.specs.Reader.{GivesOf}
use Rattle.reader.specs.Kinds.{number_of}
use Rattle.reader.specs.declared.Kind.{Kind}
use Rattle.reader.specs.declared.Kind.TheVariants.{Stop}
use Rattle.reader.specs.declared.Lexeme.{Lexeme}

-- "an ASCII letter"
unfoldable pub letter : ℕ → Bool
letter b = (leb 0x41 b && leb b 0x5A) || (leb 0x61 b && leb b 0x7A)

-- the place behind what is taken from a place on; none where a quote is not closed
abbrev pub past : ℕ → Taken → Option ℕ
past at (taken w r) = Some (at + length w)
past at unclosed = None

-- where the bytes of a sort from a place on end, for each sort that a test decides
abbrev pub EndsAt : (ℕ → Bool → Type 0) → List ℕ → ℕ → ℕ → Type 0
EndsAt post t at e = (p : ℕ → Bool) → ((b : ℕ) (r : Bool) → post b r → r ≡ p b) → Some e ≡ past at (takes p (drop at t))

-- a lexeme from a place to its end, or what cannot be read there
abbrev pub closed : Kind → ℕ → Option ℕ → Lexeme
closed kind start (Some e) = record { kind = kind; start = start; end = e }
closed kind start None = record { kind = Stop; start = start; end = start }

-- a text that is at its end, or begins with a byte that is no blank
abbrev pub bare : List ℕ → Type 0
bare [] = Unit
bare (b ∷ t) = among b blanks ≡ false

-- a place up to which there are blanks alone
pub record Skips (t : List ℕ) (at : ℕ) : Type 0 where
  pub inside : at ≤ length t
  pub same : read (drop at t) ≡ read t
  pub stands : bare (drop at t)

-- what stands next in a text, as a reading says it
pub record Found (x : Read) (t : List ℕ) (l : Lexeme) : Type 0 where
  pub gives : GivesOf x (length t) (number_of l.kind) l.start (drop l.end t)
  pub inside : l.end ≤ length t

-- what stands at a place of a text that is no blank's
abbrev pub FoundAt : List ℕ → ℕ → Lexeme → Type 0
FoundAt t at l = bare (drop at t) → Found (read (drop at t)) t l
