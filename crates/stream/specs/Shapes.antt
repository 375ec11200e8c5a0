-- The kinds by the length of their spelling, computed over the table: who has one is no blob, and one of more than one byte is neither tight nor opening. What a token writes that is
-- its spelling alone, or its value alone.
use Rattle.std.specs.Prelude.{ℕ, ◌≡◌, refl, Bool, true, false, not, ◌&&◌, ◌||◌, eqb, length}
use Rattle.std.proofs.Common.{arith, suc-ne-zero, ap, sym, ne_eqb, eqb-true}
use mathlib.Core.List.{List, [], ◌∷◌, ◌++◌, append-nil}
use Rattle.std.proofs.lemmas.Bool.{not-true}
use Rattle.laws.specs.Below.{below, at}
use Rattle.laws.specs.Tests.{and_left, and_right}
use Rattle.blank.specs.Blank.{all_blank}
use Rattle.spelling.specs.Rows.{rows}
use Rattle.spelling.specs.Spelling.{row, spelling}
use Rattle.spelling.specs.Token.{TK_BLOB}
use Rattle.spelling.specs.Laws.{count, everywhere, silent}
use Rattle.store.specs.Laid.{lead}
use Rattle.stream.specs.Stream.{none, some, tight, opens, gap, spelled_bit, valued_bit, written, added, left}

shaped : ℕ → Bool
shaped k =
    eqb (length (spelling k)) 0
    || (not (eqb k TK_BLOB) && (eqb (length (spelling k)) 1 || (not (tight k) && not (opens k))))

shaped_below : below shaped count ≡ true
unfolding shaped spelling row rows tight opens
shaped_below = refl

shaped_all : (k : ℕ) → shaped k ≡ true
unfolding shaped
shaped_all k = everywhere (λ n. shaped n ≡ true) k (at shaped count shaped_below k) (λ l. rw (silent k (omega arith)))

module _ (k : ℕ) (s : length (spelling k) ≡ 0 → ⊥) where
  has : not (eqb k TK_BLOB) && (eqb (length (spelling k)) 1 || (not (tight k) && not (opens k))) ≡ true
  unfolding shaped
  has = rw (ne_eqb (length (spelling k)) 0 s) at (shaped_all k)

  pub spelled_no_blob : eqb k TK_BLOB ≡ false
  spelled_no_blob = not-true (eqb k TK_BLOB) (and_left (not (eqb k TK_BLOB)) _ has)

  module _ (more : length (spelling k) ≡ 1 → ⊥) where
    of_more : not (tight k) && not (opens k) ≡ true
    of_more = rw (ne_eqb (length (spelling k)) 1 more) at (and_right (not (eqb k TK_BLOB)) _ has)

    pub word_tight : tight k ≡ false
    word_tight = not-true (tight k) (and_left (not (tight k)) (not (opens k)) of_more)

    pub word_opens : opens k ≡ false
    word_opens = not-true (opens k) (and_right (not (tight k)) (not (opens k)) of_more)

-- a kind that is written by its value alone: it has no spelling, is not tight and no blob
unfoldable pub silent_kind : ℕ → Bool
silent_kind k = eqb (length (spelling k)) 0 && (not (tight k) && not (eqb k TK_BLOB))

pub no_length : (w : List ℕ) → eqb (length w) 0 ≡ true → w ≡ []
no_length [] e = refl
no_length (x ∷ w) e = absurd (suc-ne-zero (length w) (eqb-true (length (x ∷ w)) 0 e))

module _ (k : ℕ) (a : silent_kind k ≡ true) where
  pub silent_spelling : spelling k ≡ []
  unfolding silent_kind
  silent_spelling = no_length (spelling k) (and_left (eqb (length (spelling k)) 0) _ a)

  silent_rest : not (tight k) && not (eqb k TK_BLOB) ≡ true
  unfolding silent_kind
  silent_rest = and_right (eqb (length (spelling k)) 0) _ a

  pub silent_loose : tight k ≡ false
  silent_loose = not-true (tight k) (and_left (not (tight k)) _ silent_rest)

  pub silent_no_blob : eqb k TK_BLOB ≡ false
  silent_no_blob = not-true (eqb k TK_BLOB) (and_right (not (tight k)) _ silent_rest)

pub opened : (b : Bool) (k : ℕ) (w : List ℕ) → (length w ≡ 0 → ⊥) → spelled_bit b k w ≡ opens k
unfolding spelled_bit
opened b k [] s = absurd (s refl)
opened b k (x ∷ w) s = refl

-- what a kind that is no blob adds and leaves: a spelling alone, and a value alone
module _ (b : Bool) (k : ℕ) (n : eqb k TK_BLOB ≡ false) where
  pub word_added : (w : List ℕ) → lead (b || tight k) ++ w ≡ added b k w none
  unfolding added gap lead written
  word_added w = rw n (ap (λ (x : List ℕ). lead (b || tight k) ++ x) (sym (append-nil w)))

  pub value_added : (v : List ℕ) → lead (b || tight k) ++ v ≡ added b k [] (some v)
  unfolding added gap lead written
  value_added v = rw n

pub word_left : (b : Bool) (k : ℕ) (w : List ℕ) → eqb k TK_BLOB ≡ false → (length w ≡ 0 → ⊥) → opens k ≡ left b k w none
unfolding left valued_bit
word_left b k w n s = rw n (sym (opened _ k w s))

pub value_left : (b : Bool) (k : ℕ) (w v : List ℕ) → eqb k TK_BLOB ≡ false → all_blank v ≡ left b k w (some v)
unfolding left valued_bit
value_left b k w v n = rw n
