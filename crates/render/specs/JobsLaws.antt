-- Laws of the jobs: what one job comes to, how a walk over all of them goes on from job to job (`Begun`), and that no two outcomes satisfy the contract.
use Rattle.std.specs.Prelude.{ℕ, suc, ◌+◌, ◌-◌, ◌≤◌, ◌<◌, ◌≡◌, Bool, length, get_or, set, take, drop}
use Rattle.std.proofs.Common.{arith, add-one, ◌∙◌, length-drop, drop_of_length-le, take_all, drop-cons, drop-set-lt, take-suc-set}
use Rattle.std.proofs.Math.Path.{refl, sym}
use mathlib.Core.List.{List, [], ◌∷◌, ◌++◌, append-nil, append_assoc}
use Rattle.std.proofs.Math.Bool.{true, false}
use Rattle.std.proofs.lemmas.Bool.{false≢true}
use Rattle.std.proofs.Math.Dec.{ltb}
use borrow.Author.Tests.{lt-ltb, le-ltb, ltb-true, ltb-false}
use borrow.Rule.Slice.PartMut.{mid_of, put_mid}
use Rattle.mode.specs.declared.Mode.{Mode}
use Rattle.render.specs.declared.jobs.Job.{Job}
use Rattle.render.specs.Render.{Outcome, RendersIn, number_of, place_of}
use Rattle.render.specs.Jobs.{outside, tree_of, answered, written, Called, Single, InOrder, none, one, RendersJobs}

-- ---- a job outside the tree buffer, tested with no sum
module _ (trees : List ℕ) (j : Job) where
  pub outside_past : length trees < j.tree_start → true ≡ outside trees j
  unfolding outside
  outside_past h = sym (lt-ltb (length trees) (j.tree_start + j.tree_len) (omega arith))

  pub outside_by : j.tree_start ≤ length trees → ltb (length trees - j.tree_start) j.tree_len ≡ outside trees j
  unfolding outside
  outside_by h = by (ltb (length trees - j.tree_start) j.tree_len) refl
    where
      by : (b : Bool) → ltb (length trees - j.tree_start) j.tree_len ≡ b
          → ltb (length trees - j.tree_start) j.tree_len ≡ ltb (length trees) (j.tree_start + j.tree_len)
      by true e =
          let l = ltb-true (length trees - j.tree_start) j.tree_len e in
          e ∙ sym (lt-ltb (length trees) (j.tree_start + j.tree_len) (omega arith))
      by false e =
          let l = ltb-false (length trees - j.tree_start) j.tree_len e in
          e ∙ sym (le-ltb (length trees) (j.tree_start + j.tree_len) (omega arith))

  pub inside_ends : outside trees j ≡ false → j.tree_start + j.tree_len ≤ length trees
  unfolding outside
  inside_ends h = ltb-false (length trees) (j.tree_start + j.tree_len) h

-- ---- the ways through one job
module _ {m : Mode} {trees x : List ℕ} {j : Job} {out : List ℕ} {at : ℕ} where
  pub is_beyond : outside trees j ≡ true → Single m trees x j out at (answered j 1 0 at) out at
  is_beyond h = record { beyond = λ _. (refl, (refl, refl)); within = λ w. absurd (false≢true (sym w ∙ h)) }

  pub is_within : {j' : Job} {out' : List ℕ} {next : ℕ} → outside trees j ≡ false → Called m (tree_of trees j) x j out at j' out' next → Single m trees x j out at j' out' next
  is_within h c = record { beyond = λ w. absurd (false≢true (sym h ∙ w)); within = λ _. c }

-- the room from `at` on, as it is lent and as it comes back
pub called : {m : Mode} {t x : List ℕ} {j j' : Job} (out : List ℕ) (at : ℕ) {next : ℕ} (o : Outcome) (room : List ℕ) → at ≤ length out
    → RendersIn m t x (mid_of at (length out - at) out) o room → (j' ≡ answered j (number_of o) (place_of o) at) × (next ≡ at + written o)
    → Called m t x j out at j' (put_mid at (length out - at) out room) next
called out at o room h r said =
    let k : length (drop at out) ≤ length out - at = omega (arith, length-drop at out) in
    record {
      outcome = o;
      room = room;
      renders = rw (take_all (length out - at) (drop at out) k) at r;
      job = said.0;
      output = rw (drop_of_length-le (drop at out) k, append-nil room);
      behind = said.1;
    }

-- ---- a walk over the jobs: i of them are done, js are the jobs now, zs the output, and the next text begins at n
module _ (m : Mode) (trees x : List ℕ) (xs : List Job) (os : List ℕ) where
  pub record Begun (i : ℕ) (js : List Job) (zs : List ℕ) (n : ℕ) : Type 0 where
    pub goes_on : (rest : List Job) (out : List ℕ) (end : ℕ) → InOrder m trees x (drop i js) zs n rest out end → InOrder m trees x xs os 0 (take i js ++ rest) out end

  pub none_yet : Begun 0 xs os 0
  none_yet = record { goes_on = λ rest out end r. r }

  -- one job more is done
  pub one_more : {i : ℕ} {js zs : _} {n : ℕ} (d r : Job) (out : List ℕ) (next : ℕ) → i < length js → Begun i js zs n → Single m trees x (get_or js i d) zs n r out next
      → Begun (i + 1) (set js i r) out next
  one_more {i} {js} {zs} {n} d r out next l b s =
      record {
        goes_on = λ rest out' end w.
            let after : InOrder m trees x (drop (suc i) js) out next rest out' end = rw (add-one i, drop-set-lt (suc i) js i r (omega arith)) at w in
            let here : InOrder m trees x (drop i js) zs n (r ∷ rest) out' end = rw (drop-cons js i d l) (one s after) in
            rw (add-one i, take-suc-set js i r l, append_assoc (take i js) (r ∷ []) rest) (b.goes_on (r ∷ rest) out' end here);
      }

  -- all of them are
  pub no_more : {i : ℕ} {js : List Job} {zs : List ℕ} {n : ℕ} → length js ≤ i → Begun i js zs n → RendersJobs m trees x xs os js zs n
  no_more {i} {js} {zs} {n} l b =
      rw (take_all i js l, append-nil js) at (b.goes_on [] zs n (rw (drop_of_length-le js l) none))
