-- What stands in the engine's buffer: after appends from a fresh record, and after render. The buffer begins with the text of the tokens
-- (append/Lists, wire/Lists, render/Render), and of texts S1 to S12 (stream/Cases) and demand 3 (reading/Demand3) are proved.
use Rattle.std.specs.Prelude.{ℕ, ◌^◌, ◌<◌, ◌≡◌, Bool, true, false, cond, ltb, length, take, drop, replicate, Ok, Err}
use Rattle.std.proofs.Common.{arith, zero-add, ◌∙◌, ap, sym, take_at}
use Rattle.std.proofs.Math.Path.{refl}
use mathlib.Core.List.{List, [], ◌∷◌, map, Memᴰ}
use Rattle.std.proofs.Math.Seq.{take-append_seam}
use Rattle.stream.specs.Stream.{text}
use Rattle.stream.specs.Cases.{Case, cases, cases_hold}
use Rattle.append.specs.declared.Stream.{Stream}
use Rattle.position.specs.Position.{lines, column}
use Rattle.append.specs.Lists.{Lent, tokens_of, AppendsAll}
use Rattle.append.proofs.Lists.{appended}
use Rattle.wire.specs.Wire.{unpacked}
use Rattle.tree.specs.Check as tree
use Rattle.tree.specs.Check.{Answer}
use Rattle.tree.specs.declared.Refusal.{Refusal}
use Rattle.tree.specs.declared.Refusal.TheVariants.{Malformed, TooLong, Broken, Mark, Misfit, Outside, Unclosed, NotRowid, Deep, Ends}
use Rattle.utf8.specs.Laws.{number_broken}
use Rattle.tokens.specs.Tokens.{tokens_of as treeTokens}
use Rattle.mode.specs.declared.Mode.{Mode}
use Rattle.tokens.specs.Tokens.{in_edition}
use Rattle.render.specs.Render.{Outcome, text_in, or_refused, rendered, output_after, RendersIn, number_of, place_of}
use Rattle.render.specs.declared.Refusal.TheVariants.{Tree, NoRoom}
use Rattle.kinyandoma.specs.Trees as Call
use Rattle.reading.specs.Reading.{Lexed, Cuts}
use Rattle.reading.specs.Readable.{Readable}
use Rattle.reading.proofs.Demand3.{spellings, gives_back, never_shared, tree_gives_back}

-- a record from which nothing was written yet
pub record Fresh (rec : Stream) : Type 0 where
  pub spaced : rec.spaced ≡ true
  pub count : rec.count ≡ 0
  pub line : rec.line ≡ 0
  pub column : rec.column ≡ 0

-- and its bytes
abbrev pub fresh_bytes : List ℕ
fresh_bytes = 1 ∷ replicate 24 0

pub fresh_bytes_lem : Fresh (unpacked fresh_bytes)
unfolding unpacked
fresh_bytes_lem = record { spaced = refl; count = refl; line = refl; column = refl }

pub case_text : {c : Case} → Memᴰ c cases → text true c.0 ≡ c.1
case_text {c} m = held cases cases_hold m
  where
    held : (cs : List Case) → map (λ (d : Case). text true d.0) cs ≡ map (λ (d : Case). d.1) cs → Memᴰ c cs → text true c.0 ≡ c.1
    held [] h k = elim k [ ]
    held (d ∷ cs) h (Memᴰ.head i) = rw i (let z : text true d.0 ≡ d.1 = cc in z)
    held (d ∷ cs) h (Memᴰ.tail k) = held cs (let z : map (λ (b : Case). text true b.0) cs ≡ map (λ (b : Case). b.1) cs = cc in z) k

-- ---- append, from a fresh record, all of which succeed
module _ {rec : Stream} {out : List ℕ} {ls : List Lent} {rec' : Stream} {out' : List ℕ} (fresh : Fresh rec) (all : AppendsAll rec out ls rec' out') where
  -- the bytes that are counted are the text
  pub appended_text : take rec'.count out' ≡ text true (tokens_of ls)
  appended_text =
      let a = appended all in
      let n : length (text true (tokens_of ls)) ≡ rec'.count = sym (a.count ∙ rw (fresh.spaced, fresh.count) (zero-add (length (text true (tokens_of ls))))) in
      rw (a.writes, fresh.spaced, fresh.count) (take_at (text true (tokens_of ls)) (drop rec'.count out) rec'.count n)

  -- 02, ix: line and column are functions of all bytes written, the number of newlines and the bytes since the last one
  pub appended_line : rec'.line ≡ lines (take rec'.count out')
  appended_line = rw appended_text ((appended all).line ∙ rw (fresh.spaced, fresh.line) (zero-add (lines (text true (tokens_of ls)))))

  pub appended_column : rec'.column ≡ column 0 (take rec'.count out')
  appended_column = rw appended_text ((appended all).column ∙ rw (fresh.spaced, fresh.column))

  -- demand 3: a readable stream is cut back into its lexemes, with nothing left
  pub appended_reads_back : {lexemes : List Lexed} → Readable (tokens_of ls) lexemes → Cuts (take rec'.count out') lexemes []
  appended_reads_back {lexemes} r = rw appended_text (gives_back (tokens_of ls) lexemes r)

  -- S1 to S12: the tokens of a case write its bytes
  pub appended_case : {c : Case} → Memᴰ c cases → tokens_of ls ≡ c.0 → take rec'.count out' ≡ c.1
  appended_case m e = rw (appended_text, e) (case_text m)

-- readable streams with different spellings never leave the same bytes
pub appended_never_shared : {rec₁ rec₂ rec₁' rec₂' : Stream} {out₁ out₂ out₁' out₂' : List ℕ} {ls₁ ls₂ : List Lent} {lx₁ lx₂ : List Lexed} → Fresh rec₁ → Fresh rec₂
    → AppendsAll rec₁ out₁ ls₁ rec₁' out₁' → AppendsAll rec₂ out₂ ls₂ rec₂' out₂' → Readable (tokens_of ls₁) lx₁ → Readable (tokens_of ls₂) lx₂
    → take rec₁'.count out₁' ≡ take rec₂'.count out₂' → spellings lx₁ ≡ spellings lx₂
appended_never_shared {ls₁ = ls₁} {ls₂ = ls₂} {lx₁ = lx₁} {lx₂ = lx₂} f g x y r s e =
    never_shared (tokens_of ls₁) (tokens_of ls₂) lx₁ lx₂ r s (sym (appended_text f x) ∙ e ∙ appended_text g y)

-- ---- render in any mode, where its number is 0
-- (no refusal is 0)
not_zero : (r : Refusal) → tree.number_of (Err r) ≡ 0 → ⊥
not_zero Malformed z = omega arith
not_zero TooLong z = omega arith
not_zero (Broken b) z = number_broken b z
not_zero (Mark i) z = omega arith
not_zero (Misfit i) z = omega arith
not_zero (Outside i) z = omega arith
not_zero (Unclosed i) z = omega arith
not_zero (NotRowid i) z = omega arith
not_zero (Deep i) z = omega arith
not_zero (Ends i) z = omega arith

module _ {m : Mode} {t x out : List ℕ} {o : Outcome} {out' : List ℕ} (renders : RendersIn m t x out o out') (success : number_of o ≡ 0) where
  pub outcome_is : o ≡ Ok (length (text_in m.edition t x))
  unfolding rendered
  outcome_is = renders.answers ∙ by renders.answer (ltb (length out) n) (ap number_of (sym renders.answers) ∙ success)
    where
      n : ℕ
      n = length (text_in m.edition t x)

      by : (a : Answer) (c : Bool) → number_of (or_refused a (cond c (Err (NoRoom n)) (Ok n))) ≡ 0 → or_refused a (cond c (Err (NoRoom n)) (Ok n)) ≡ Ok n
      by (Err r) c z = absurd (not_zero r z)
      by (Ok u) true z = absurd (omega arith)
      by (Ok u) false z = refl

  -- so many bytes as it says are the text of the tree
  pub rendered_text : take (place_of o) out' ≡ text_in m.edition t x
  unfolding output_after
  rendered_text = rw (renders.writes, outcome_is) (take-append_seam (text_in m.edition t x) (drop (length (text_in m.edition t x)) out))

  -- demand 3: if its tokens are readable, the bytes are cut back into their lexemes
  pub rendered_reads_back : {lexemes : List Lexed} → Readable (treeTokens (in_edition t x m.edition)) lexemes → Cuts (take (place_of o) out') lexemes []
  rendered_reads_back {lexemes} r = rw rendered_text (tree_gives_back (in_edition t x m.edition) lexemes r)

-- the same of kinyandoma_render, where its answer is below 2^32
module _ {m : Mode} {t x out : List ℕ} {answer : ℕ} {out' : List ℕ} (c : Call.RendersIn m t x out answer out') (low : answer < 2 ^ 32) where
  success : number_of c.outcome ≡ 0
  unfolding Call.code
  success = omega (arith, c.answers)

  answer_is : answer ≡ place_of c.outcome
  unfolding Call.code
  answer_is = omega (arith, c.answers, success)

  pub call_text : take answer out' ≡ text_in m.edition t x
  call_text = rw answer_is (rendered_text c.renders success)

  pub call_reads_back : {lexemes : List Lexed} → Readable (treeTokens (in_edition t x m.edition)) lexemes → Cuts (take answer out') lexemes []
  call_reads_back r = rw answer_is (rendered_reads_back c.renders success r)
