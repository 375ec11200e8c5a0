-- What a lexeme of each kind comes to in a text: where it starts, and the rest behind its end. Each kind's law is `found` with what is taken.
use Rattle.std.specs.Prelude.{ℕ, ◌+◌, ◌<◌, ◌≡◌, refl, List, [], ◌∷◌, true, false, ◌&&◌, length, drop, get_or, Option, Some, None}
use Rattle.std.proofs.Common.{arith, sym, ap, ◌∙◌}
use Rattle.laws.specs.Tests.{and_right}
use Rattle.laws.specs.Among.{among}
use Rattle.reading.specs.Bytes.{word_byte, exes, apostrophe}
use Rattle.reading.specs.Number.{Taken, taken, unclosed, after, takes, number}
use Rattle.reading.specs.Lexeme.{Kind, Word, Number, Quoted, Blob, Variable, Operator, Mark}
use Rattle.reading.specs.Reading.{operator_byte, mark, quote, digits, word, variable, operator, nothing, start, through, closing, opened, blobbed, answer, read}
use Rattle.reader.specs.Named.{named}
use Rattle.reader.specs.declared.Kind.TheVariants.{Stop}
use Rattle.reader.specs.Places.{past, closed, Found}
use Rattle.reader.specs.Laws.{byte_then, past_after, opened_inside}
use Rattle.reader.specs.Splits.{splits, splits_after, takes_splits, closing_splits, blobbed_splits, filled_after, number_splits, number_filled}
use Rattle.reader.specs.Finds.{found}

-- the same of a text whose first byte begins a lexeme
begun : (κ : Kind) (t : List ℕ) (at : ℕ) (e : Option ℕ) (x : Taken) → at < length t → e ≡ past (at + 1) x → splits x (drop (at + 1) t)
    → read (drop at t) ≡ answer κ (drop at t) (after (get_or t at 0 ∷ []) x) → Found (read (drop at t)) t (closed (named κ) at e)
begun κ t at e x l h s r =
    rw (r, h, ← past_after at (get_or t at 0 ∷ []) x)
    (found κ t at (after (get_or t at 0 ∷ []) x) (omega arith) (rw (byte_then t at l) (splits_after (get_or t at 0 ∷ []) (drop (at + 1) t) x s)) (filled_after (get_or t at 0) x))

pub found_mark : (t : List ℕ) (at : ℕ) → at < length t → start (get_or t at 0) ≡ mark → Found (read (drop at t)) t (closed (named Mark) at (Some (at + 1)))
unfolding read
found_mark t at l b = begun Mark t at (Some (at + 1)) (taken [] (drop (at + 1) t)) l (ap Some (omega arith)) refl (rw (byte_then t at l, b, read))

pub found_quoted : (t : List ℕ) (at : ℕ) (e : Option ℕ) → at < length t → start (get_or t at 0) ≡ quote → e ≡ past (at + 1) (closing (get_or t at 0) (drop (at + 1) t))
    → Found (read (drop at t)) t (closed (named Quoted) at e)
unfolding read
found_quoted t at e l b h =
    let q = get_or t at 0 in
    begun Quoted t at e (closing q (drop (at + 1) t)) l h (closing_splits q (drop (at + 1) t)) (rw (byte_then t at l, b, read))

pub found_operator : (t : List ℕ) (at : ℕ) (e : Option ℕ) → at < length t → start (get_or t at 0) ≡ operator → e ≡ past (at + 1) (takes operator_byte (drop (at + 1) t))
    → Found (read (drop at t)) t (closed (named Operator) at e)
unfolding read
found_operator t at e l b h = begun Operator t at e (takes operator_byte (drop (at + 1) t)) l h (takes_splits operator_byte (drop (at + 1) t)) (rw (byte_then t at l, b, read))

pub found_variable : (t : List ℕ) (at : ℕ) (e : Option ℕ) → at < length t → start (get_or t at 0) ≡ variable → e ≡ past (at + 1) (takes word_byte (drop (at + 1) t))
    → Found (read (drop at t)) t (closed (named Variable) at e)
unfolding read
found_variable t at e l b h = begun Variable t at e (takes word_byte (drop (at + 1) t)) l h (takes_splits word_byte (drop (at + 1) t)) (rw (byte_then t at l, b, read))

pub found_word : (t : List ℕ) (at : ℕ) (e : Option ℕ) → at < length t → start (get_or t at 0) ≡ word → (among (get_or t at 0) exes && opened (drop (at + 1) t)) ≡ false
    → e ≡ past (at + 1) (takes word_byte (drop (at + 1) t)) → Found (read (drop at t)) t (closed (named Word) at e)
unfolding read
found_word t at e l b x h = begun Word t at e (takes word_byte (drop (at + 1) t)) l h (takes_splits word_byte (drop (at + 1) t)) (rw (byte_then t at l, b, x, read))

-- X and a quote: the blob goes on behind both
behind_both : (t : List ℕ) (at : ℕ) → opened (drop (at + 1) t) ≡ true → past (at + 2) (through apostrophe (drop (at + 2) t)) ≡ past (at + 1) (blobbed (drop (at + 1) t))
behind_both t at h =
    let two : at + 1 + 1 ≡ at + 2 = omega arith in
    rw (byte_then t (at + 1) (opened_inside t (at + 1) h), two)
    (sym (past_after (at + 1) (get_or t (at + 1) 0 ∷ []) (through apostrophe (drop (at + 2) t)) ∙ rw two))

pub found_blob : (t : List ℕ) (at : ℕ) (e : Option ℕ) → at < length t → start (get_or t at 0) ≡ word → (among (get_or t at 0) exes && opened (drop (at + 1) t)) ≡ true
    → e ≡ past (at + 2) (through apostrophe (drop (at + 2) t)) → Found (read (drop at t)) t (closed (named Blob) at e)
unfolding read
found_blob t at e l b x h =
    begun Blob t at e (blobbed (drop (at + 1) t)) l
    (h ∙ behind_both t at (and_right (among (get_or t at 0) exes) (opened (drop (at + 1) t)) x)) (blobbed_splits (drop (at + 1) t)) (rw (byte_then t at l, b, x, read))

pub found_number : (t : List ℕ) (at : ℕ) (e : Option ℕ) → at < length t → start (get_or t at 0) ≡ digits → e ≡ past at (number (get_or t at 0) (drop (at + 1) t))
    → Found (read (drop at t)) t (closed (named Number) at e)
unfolding read
found_number t at e l b h =
    let x : Taken = number (get_or t at 0) (drop (at + 1) t) in
    let r : read (drop at t) ≡ answer Number (drop at t) x = rw (byte_then t at l, b, read) in
    rw (r, h) (found Number t at x (omega arith) (rw (byte_then t at l) (number_splits (get_or t at 0) (drop (at + 1) t))) (number_filled (get_or t at 0) (drop (at + 1) t)))

pub found_nothing : (t : List ℕ) (at : ℕ) → at < length t → start (get_or t at 0) ≡ nothing → Found (read (drop at t)) t (closed Stop at None)
unfolding read
found_nothing t at l b =
    let r : read (drop at t) ≡ answer Word (drop at t) unclosed = rw (byte_then t at l, b, read) in
    rw r (found Word t at unclosed (omega arith) tt tt)
