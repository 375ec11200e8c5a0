-- The check over a text whose encoding is told, so that many trees over one text need one look at it (02, i). Where what is told is the text's encoding it
-- is the check itself (`told_checks`). That a text is valid is not taken where it begins inside a character; so no answer is left open.
use Rattle.std.specs.Prelude.{ℕ, ◌≤◌, ◌<◌, ◌≡◌, refl, List, [], ◌∷◌, Bool, true, false, cond, ◌||◌, ltb, length, Ok, Err}
use Rattle.std.proofs.Common.{arith, ◌∙◌, ap}
use Rattle.std.proofs.lemmas.Bool.{false≢true}
use borrow.Author.Tests.{lt-ltb, le-ltb}
use Rattle.laws.specs.First.{first}
use Rattle.mode.specs.declared.Mode.{Mode}
use Rattle.utf8.specs.Rfc3629.{Text, Encoding, Encoded, boundary, none}
use Rattle.utf8.proofs.Laws.{boundary_text}
use Rattle.utf8.proofs.Decided.{decided}
use Rattle.utf8.specs.declared.Broken.{Broken as Breach}
use Rattle.utf8.specs.declared.Broken.TheVariants.{Bad}
use Rattle.record.specs.Record.{count}
use Rattle.grammar.specs.Grammar.{root}
use Rattle.tree.specs.Check.{Answer, place, scan, malformed, longest, answer_in, answer_to, ChecksIn, Checks}
use Rattle.tree.specs.declared.Refusal.TheVariants.{Malformed, TooLong, Broken}

-- what is taken for the encoding of a text where e is told
unfoldable pub taken : List ℕ → Encoding → Encoding
taken x (Ok u) = cond (boundary x 0) (Ok u) (Err (Bad 0))
taken x (Err b) = Err b

-- ---- the text's own encoding is taken as it is: a text that is UTF-8 does not start inside a character
starts_whole : (x : List ℕ) → Text x → boundary x 0 ≡ true
starts_whole x h = (boundary_text h 0 (omega arith)).1 none

taken_own : (x : List ℕ) (e : Encoding) → Encoded x e → taken x e ≡ e
unfolding taken
taken_own x (Ok u) h = rw (starts_whole x h)
taken_own x (Err b) h = refl

pub told_checks : {m : Mode} {t x : List ℕ} (e : Encoding) {a : Answer} → Encoded x e → a ≡ answer_in m (taken x e) t x → ChecksIn m t x a
told_checks {m} {t} {x} e h is = record { encoding = e; encoded = h; answers = is ∙ ap (λ (k : Encoding). answer_in m k t x) (taken_own x e h) }

-- ---- where 1 or the length of the text comes first, every encoding leads to the same answer
abbrev before : Bool → Bool → Answer → Answer
before f l a = first ((f, Err Malformed) ∷ (l, Err TooLong) ∷ []) a

pub unlooked : {t x : List ℕ} (e : Encoding) {a : Answer} (b : Bool) → b ≡ malformed t → (b || ltb longest (length x)) ≡ true → a ≡ answer_to e t x → Checks t x a
unfolding answer_in
unlooked {t} {x} e {a} b q h is =
    let d = decided x in
    record { encoding = d.0; encoded = d.1; answers = is ∙ by (malformed t) (ltb longest (length x)) _ _ (rw q at h) }
  where
    by : (f l : Bool) (a o : Answer) → (f || l) ≡ true → before f l a ≡ before f l o
    by true l a o h = refl
    by false true a o h = refl
    by false false a o h = absurd (false≢true h)

-- ---- 1, 2, and then the records
module _ (t x : List ℕ) (b : Bool) (q : b ≡ malformed t) where
  pub is_malformed : (e : Encoding) → b ≡ true → Err Malformed ≡ answer_to e t x
  unfolding answer_in
  is_malformed e h = rw (← q, h)

  module _ (h : b ≡ false) where
    pub too_long : (e : Encoding) → longest < length x → Err TooLong ≡ answer_to e t x
    unfolding answer_in
    too_long e l = rw (← q, h, lt-ltb longest (length x) l)

    module _ (l : length x ≤ longest) where
      pub ill : (e : Breach) → Err (Broken e) ≡ answer_to (taken x (Err e)) t x
      unfolding answer_in taken
      ill e = rw (← q, h, le-ltb longest (length x) l)

      module _ (c : Bool) (at : c ≡ boundary x 0) where
        pub begun_inside : c ≡ false → Err (Broken (Bad 0)) ≡ answer_to (taken x (Ok tt)) t x
        unfolding answer_in taken
        begun_inside n = rw (← q, h, le-ltb longest (length x) l, ← at, n)

        pub looked_at : (a : Answer) → c ≡ true → a ≡ scan t x (count t) 0 (place 1 root ∷ []) → a ≡ answer_to (taken x (Ok tt)) t x
        unfolding answer_in taken
        looked_at a n s = rw (← q, h, le-ltb longest (length x) l, ← at, n) s
