-- Two ways to write a row of records that come to the same, with what holds of the index behind them.
use Prim.Native.Nat.{ℕ, zero, suc}
use Rattle.std.specs.Prelude.{◌≡◌, refl, Bool, true, false, cond}
use Rattle.std.proofs.Common.{◌∙◌, ap}
use mathlib.Core.List.{List, []}
use Rattle.stream.specs.Stream.{Token}
use Rattle.mode.specs.declared.Edition.{Edition}
use Rattle.tokens.specs.Tokens.{Source, Out, behind, say, of, then, rows, checked}
use Rattle.admitted.specs.Same.{Same, joined, swapped}

pub says : {P : ℕ → Type 0} (ts : List Token) (j : ℕ) → P j → Same P (say ts j) (say ts j)
says ts j h = record { is = refl; on = h }

pub ofs : {P : ℕ → Type 0} (e : Source) (ts : List Token) (j : ℕ) → P (behind e j) → Same P (of e j ts) (of e j ts)
ofs e ts j h = record { is = refl; on = h }

pub either : {P : ℕ → Type 0} {o p q r : Out} (b : Bool) → (b ≡ true → Same P o p) → (b ≡ false → Same P q r) → Same P (cond b o q) (cond b p r)
either true y n = y refl
either false y n = n refl

-- one behind the other, and the later one first
pub thens : {P Q : ℕ → Type 0} {o p : Out} (f g : ℕ → Out) → Same P o p → ((k : ℕ) → P k → Same Q (f k) (g k)) → Same Q (then o f) (then p g)
thens {o} f g s h =
    let q = h o.next s.on in
    record { is = ap (λ (u : Out). then o (λ k. u)) q.is ∙ ap (λ (u : Out). then u g) s.is; on = q.on }

pub laters : {P Q : ℕ → Type 0} {o p : Out} (f g : ℕ → Out) → Same P o p → ((k : ℕ) → P k → Same Q (f k) (g k)) → Same Q (swapped o f) (swapped p g)
laters {o} f g s h =
    let q = h o.next s.on in
    record { is = ap (λ (u : Out). swapped o (λ k. u)) q.is ∙ ap (λ (u : Out). swapped u g) s.is; on = q.on }

pub boths : {P Q : ℕ → Type 0} {o p : Out} (v : Edition) (f g : ℕ → Out) → Same P o p → ((k : ℕ) → P k → Same Q (f k) (g k)) → Same Q (joined v o f) (joined v p g)
boths {o} v f g s h =
    let q = h o.next s.on in
    record { is = ap (λ (u : Out). joined v o (λ k. u)) q.is ∙ ap (λ (u : Out). joined v u g) s.is; on = q.on }

-- a CHECK's expression, and its source behind it
pub checks : {P Q : ℕ → Type 0} {o p : Out} (e : Source) → Same P o p → ((k : ℕ) → P k → Q (behind e k)) → Same Q (checked e o.tokens o.next) (checked e p.tokens p.next)
unfolding checked
checks {o} e s h = record { is = ap (λ (u : Out). checked e u.tokens u.next) s.is; on = h o.next s.on }

-- n records, where P says what holds before the last so many
module _ (P : ℕ → ℕ → Type 0) (f g : ℕ → Out) (each-one : (n k : ℕ) → P (suc n) k → Same (P n) (f k) (g k)) where
  pub rows_same : (lead sep : List Token) (n j : ℕ) → P n j → Same (P 0) (rows f lead sep n j) (rows g lead sep n j)
  unfolding rows
  rows_same lead sep zero j h = says [] j h
  rows_same lead sep (suc n) j h = thens (rows f sep sep n) (rows g sep sep n) (thens f g (says lead j h) (each-one n)) (rows_same sep sep n)
