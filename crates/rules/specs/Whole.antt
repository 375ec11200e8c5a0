-- From 01's check and the walk to the answer in a mode; and what a mode admits, one that asks for less admits.
use Rattle.std.specs.Prelude.{ℕ, zero, suc, ◌+◌, ◌-◌, ◌≤◌, ◌<◌, ◌≡◌, refl, List, [], ◌∷◌, ◌++◌, map, Bool, true, false, not, ◌&&◌, ◌||◌, ltb, length, Ok, Err}
use Rattle.std.proofs.Common.{arith, ◌∙◌, ap, sym}
use Rattle.std.proofs.lemmas.Bool.{false≢true}
use Rattle.laws.specs.First.{first}
use Rattle.mode.specs.Options.{is_sqlite, plain}
use Rattle.mode.specs.declared.Edition.{Edition}
use Rattle.mode.specs.declared.Edition.TheVariants.{Crate, Sqlite}
use Rattle.mode.specs.declared.Mode.{Mode}
use Rattle.utf8.specs.Rfc3629.{Encoding}
use Rattle.record.specs.Record.{record_at, count, mark_ok}
use Rattle.grammar.specs.Kind.{NONE}
use Rattle.grammar.specs.Grammar.{root}
use Rattle.grammar.specs.Classes.{classes, class_at, root_at, root_is}
use Rattle.tree.specs.Check.{Answer, Place, place, holds, fits, inside, swallows, misnames, deepest, faults_in, scan_in, scan, malformed, longest, or_broken, answer_in, answer_to, ChecksIn, number_of}
use Rattle.tree.proofs.Bounds.{tree_short}
use Rattle.tree.specs.declared.Refusal.TheVariants.{Malformed, TooLong, Mark, Misfit, Outside, Unclosed, NotRowid, Deep}
use Rattle.rules.specs.Rules.{rule_at, rule_of, sound_to, sound_within}
use Rattle.rules.specs.Walk.{Reached, Rules, Led}

-- the root's place, which has no rule
abbrev pub at_root : List Place
at_root = place 1 root ∷ []

pub root_rules : Rules root_at NONE 0 1
unfolding rule_at rule_of class_at classes
root_rules = record { held = refl; rules = refl }

-- ---- 1 and 2 come before all records: then no record is sound so far, and else the answer is the scan's
early_or : (t : List ℕ) (f l : Bool) (e : Encoding) (a s : Answer) → a ≡ first ((f, Err Malformed) ∷ (l, Err TooLong) ∷ []) (or_broken e s)
    → 0 < sound_to t a → a ≡ s
early_or t true l e a s q h = absurd (omega (arith, ap (sound_to t) q))
early_or t false true e a s q h = absurd (omega (arith, ap (sound_to t) q))
early_or t false false (Err b) a s q h = absurd (omega (arith, ap (sound_to t) q))
early_or t false false (Ok u) a s q h = q

-- the answer of 01's check, whatever was said of the text's encoding
pub record Answered (t x : List ℕ) (a : Answer) : Type 0 where
  pub encoding : Encoding
  pub answers : a ≡ answer_to encoding t x

-- and the answer in a mode, for the same encoding
abbrev pub Ruled : Mode → List ℕ → List ℕ → Answer → Answer → Type 0
Ruled m t x a r = (e : Encoding) → a ≡ answer_to e t x → r ≡ answer_in m e t x

module _ (t x : List ℕ) (a : Answer) (c : Answered t x a) where
  scanned : 0 < sound_to t a → a ≡ scan t x (count t) 0 at_root
  unfolding answer_in
  scanned h = early_or t (malformed t) (ltb longest (length x)) c.encoding a _ c.answers h

  pub root_reached : Reached t x (sound_to t a) 0 (place 1 (class_at root_at) ∷ [])
  root_reached h = let z : count t - 0 ≡ count t = omega arith in rw (root_is, z) (sym (ap (sound_to t) (scanned h)))

  pub led : Led t x (sound_to t a) 0 64 NONE 1
  led = record { row = root_at; rules = root_rules; rest = []; reached = root_reached }

  -- no more records are sound than there are
  pub sound_few : sound_to t a ≤ longest
  unfolding answer_in
  sound_few = rw c.answers (by (malformed t) refl (ltb longest (length x)) c.encoding)
    where
      by : (f : Bool) → malformed t ≡ f → (l : Bool) (e : Encoding)
          → sound_to t (first ((f, Err Malformed) ∷ (l, Err TooLong) ∷ []) (or_broken e (scan t x (count t) 0 at_root))) ≤ longest
      by true q l e = omega arith
      by false q true e = omega arith
      by false q false (Err b) = omega arith
      by false q false (Ok u) = omega (arith, sound_within t x (count t) 0 at_root (omega arith), tree_short t q)

-- ---- with no rule in force the mode is 01's
crate_is : (v : Edition) → is_sqlite v ≡ false → Crate ≡ v
crate_is Crate h = refl
crate_is Sqlite h = absurd (false≢true (sym h))

plain_is : (m : Mode) → m.strict ≡ false → is_sqlite m.edition ≡ false → plain ≡ m
plain_is m e f =
    let v = crate_is m.edition f in
    rw (v, ← e)

pub as_plain : (m : Mode) (t x : List ℕ) (a : Answer) → (m.strict || is_sqlite m.edition) ≡ false → Ruled m t x a a
as_plain m t x a h k is = by m.strict (is_sqlite m.edition) refl refl h
  where
    by : (b d : Bool) → m.strict ≡ b → is_sqlite m.edition ≡ d → (b || d) ≡ false → a ≡ answer_in m k t x
    by true d e f z = absurd (false≢true (sym z))
    by false true e f z = absurd (false≢true (sym z))
    by false false e f z = rw (← plain_is m e f) is

-- ---- what a mode admits, a mode that asks for less admits
pub record Looser (k m : Mode) : Type 0 where
  pub switch : k.strict ≡ true → m.strict ≡ true
  pub sqlite : is_sqlite k.edition ≡ true → is_sqlite m.edition ≡ true

-- 01 as it is asks for the least, and the same edition with the switch off for less
pub plain_looser : (m : Mode) → Looser plain m
plain_looser m = record { switch = λ h. absurd (false≢true h); sqlite = λ h. absurd (false≢true h) }

abbrev pub switched_off : Mode → Mode
switched_off m = record { strict = false; edition = m.edition }

pub off_looser : (m : Mode) → Looser (switched_off m) m
off_looser m = record { switch = λ h. absurd (false≢true h); sqlite = λ h. h }

less_asked : (b c w : Bool) → (b ≡ true → c ≡ true) → (c && w) ≡ false → (b && w) ≡ false
less_asked true c w h e = rw (h refl) at e
less_asked false c w h e = refl

module _ (k m : Mode) (less : Looser k m) (t x : List ℕ) where
  same_scan : (n i : ℕ) (ps : List Place) → number_of (scan_in m t x n i ps) ≡ 0 → scan_in k t x n i ps ≡ scan_in m t x n i ps
  unfolding scan_in faults_in
  same_scan zero i [] z = refl
  same_scan zero i (p ∷ ps) z = refl
  same_scan (suc n) i [] z = refl
  same_scan (suc n) i (p ∷ ps) z =
      let r = record_at t i in
      by (not (mark_ok r)) (not (fits p.class r)) (not (inside x r)) _ _ _ _ (ltb deepest p.depth) _ _
      (less_asked k.strict m.strict (swallows x p.class r) less.switch)
      (less_asked (is_sqlite k.edition) (is_sqlite m.edition) (misnames x p.class r) less.sqlite)
      (same_scan n (i + 1) (map (place (p.depth + 1)) (holds p.class r) ++ ps)) z
    where
      by : (g f o s q u v d : Bool) (a b : Answer) → (s ≡ false → u ≡ false) → (q ≡ false → v ≡ false) → (number_of b ≡ 0 → a ≡ b)
          → number_of (first ((g, Err (Mark i)) ∷ (f, Err (Misfit i)) ∷ (o, Err (Outside i)) ∷ (s, Err (Unclosed i)) ∷ (q, Err (NotRowid i)) ∷ (d, Err (Deep i)) ∷ []) b) ≡ 0
          → first ((g, Err (Mark i)) ∷ (f, Err (Misfit i)) ∷ (o, Err (Outside i)) ∷ (u, Err (Unclosed i)) ∷ (v, Err (NotRowid i)) ∷ (d, Err (Deep i)) ∷ []) a
          ≡ first ((g, Err (Mark i)) ∷ (f, Err (Misfit i)) ∷ (o, Err (Outside i)) ∷ (s, Err (Unclosed i)) ∷ (q, Err (NotRowid i)) ∷ (d, Err (Deep i)) ∷ []) b
      by true f o s q u v d a b hs hq rest e = refl
      by false true o s q u v d a b hs hq rest e = refl
      by false false true s q u v d a b hs hq rest e = refl
      by false false false true q u v d a b hs hq rest e = absurd (omega arith)
      by false false false false true u v d a b hs hq rest e = absurd (omega arith)
      by false false false false false u v true a b hs hq rest e = absurd (omega arith)
      by false false false false false u v false a b hs hq rest e = rw (hs refl, hq refl) (rest e)

  pub looser : (a : Answer) → number_of a ≡ 0 → ChecksIn m t x a → ChecksIn k t x a
  unfolding answer_in
  looser a z c =
      record {
        encoding = c.encoding;
        encoded = c.encoded;
        answers = by (malformed t) (ltb longest (length x)) c.encoding c.answers;
      }
    where
      by : (f l : Bool) (e : Encoding) → a ≡ first ((f, Err Malformed) ∷ (l, Err TooLong) ∷ []) (or_broken e (scan_in m t x (count t) 0 at_root))
          → a ≡ first ((f, Err Malformed) ∷ (l, Err TooLong) ∷ []) (or_broken e (scan_in k t x (count t) 0 at_root))
      by true l e q = q
      by false true e q = q
      by false false (Err b) q = q
      by false false (Ok u) q = q ∙ sym (same_scan (count t) 0 at_root (sym (ap number_of q) ∙ z))
