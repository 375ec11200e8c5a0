-- What a lexeme of each kind comes to in a text: where it starts, and the rest behind its end. Each kind's law is `found` with what is taken.
use Rattle.std.specs.Prelude.{ℕ, ◌+◌, ◌≤◌, ◌≡◌, refl, List, [], length, drop}
use Rattle.std.proofs.Common.{arith, sym, ap, ◌∙◌, length-append, length-drop, drop_of_length-le, drop-drop}
use Rattle.std.proofs.Math.Seq.{drop-append_seam}
use Rattle.reading.specs.Number.{Taken, taken, unclosed}
use Rattle.reading.specs.Lexeme.{Kind}
use Rattle.reading.specs.Reading.{answer, read}
use Rattle.reader.specs.Named.{named, numbered}
use Rattle.reader.specs.Places.{past, closed, Skips, Found}
use Rattle.reader.specs.declared.Kind.TheVariants.{End}
use Rattle.reader.specs.declared.Lexeme.{Lexeme}
use Rattle.reader.specs.Splits.{splits, filled}

-- what is taken at a place, or not closed, is what is found there
pub found : (κ : Kind) (t : List ℕ) (at : ℕ) (x : Taken) → at ≤ length t → splits x (drop at t) → filled x
    → Found (answer κ (drop at t) x) t (closed (named κ) at (past at x))
found κ t at (taken w r) l h f =
    let n = ap length h in
    record {
      gives = (numbered κ, (omega (arith, n, length-append w r, length-drop at t), sym (drop-drop (length w) at t) ∙ rw (← h) (drop-append_seam w r)));
      inside = omega (arith, n, length-append w r, length-drop at t);
    }
found κ t at unclosed l h f = record { gives = (refl, (omega (arith, length-drop at t), refl)); inside = l }

-- behind blanks, and at the end
pub found_behind : (t : List ℕ) (at : ℕ) (x : Lexeme) → Skips t at → Found (read (drop at t)) t x → Found (read t) t x
found_behind t at x s f = rw (← s.same) f

pub found_end : (t : List ℕ) (at : ℕ) → Skips t at → at ≡ length t → Found (read t) t (record { kind = End; start = at; end = at })
unfolding read
found_end t at s e =
    let none : drop at t ≡ [] = drop_of_length-le t {i = at} (omega arith) in
    rw (← s.same, none) (record { gives = (refl, (e, none)); inside = s.inside })
