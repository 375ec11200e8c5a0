-- `record::read` meets its contract: by its test, the record is there or past the end.
use Rattle.std.specs.Prelude.{ℕ, ◌≡◌}
use Rattle.std.proofs.Common.{arith, sym, ◌∙◌}
use Rattle.record.specs.Laws.{nothing, there, past}
use Rattle.record.proofs.read.Goals as goal

pub returns-then-index-count : goal.returns-then-index-count
returns-then-index-count c = c.record_at.ensures ∙ sym (there _ _ (omega arith))

zeros : {mark kind flags kids start len : ℕ} → (mark ≡ 0) × ((kind ≡ 0) × ((flags ≡ 0) × ((kids ≡ 0) × ((start ≡ 0) × (len ≡ 0))))) →
    record { mark = mark; kind = kind; flags = flags; kids = kids; start = start; len = len } ≡ nothing
zeros e = rw (e.0, e.1.0, e.1.1.0, e.1.1.1.0, e.1.1.1.1.0, e.1.1.1.1.1)

pub returns : goal.returns
returns c = zeros c.default.ensures ∙ sym (past _ _ (omega arith))
