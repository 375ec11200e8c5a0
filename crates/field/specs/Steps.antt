-- The ways through the test of the first two records.
use Rattle.std.specs.Prelude.{ℕ, ◌<◌, ◌≡◌, List, Bool, false, not, ◌&&◌, eqb}
use Rattle.std.proofs.Common.{arith, ne_eqb}
use Rattle.laws.specs.Among.{among}
use Rattle.record.specs.Record.{record_at}
use Rattle.record.specs.declared.Record.{Record}
use Rattle.grammar.specs.Kind.{Cmd}
use Rattle.field.specs.Profile.{five, foreign}

pub foreign_later : (t : List ℕ) (i : ℕ) → 1 < i → false ≡ foreign t i
unfolding foreign
foreign_later t i h = rw (ne_eqb i 0 (λ e. omega arith), ne_eqb i 1 (λ e. omega arith))

module _ (t : List ℕ) (i : ℕ) (r : Record) (re : r ≡ record_at t i) (b : Bool) (be : b ≡ among r.kind five) where
  pub foreign_head : i ≡ 0 → (not b && not (eqb r.kind Cmd && eqb r.flags 0)) ≡ foreign t i
  unfolding foreign
  foreign_head z = rw (be, re, z)

  pub foreign_second : (head : Record) → head ≡ record_at t 0 → i ≡ 1 → (not b && eqb head.kind Cmd) ≡ foreign t i
  unfolding foreign
  foreign_second head he z = rw (be, re, he, z)
