-- Each number so far is that of its four bytes.
use Rattle.std.proofs.Common.{ℕ, ◌≡◌, ◌*◌, ◌<◌, length, take, drop, get_or}
use Rattle.laws.specs.Little.{from_little}
use Rattle.lines.proofs.numbers.Given as goal

abbrev pub invariant-loop-i : goal.invariant-loop-i
invariant-loop-i g l = (length l.held ≡ g.row.N) × ((j : ℕ) → j < l.i → get_or l.held j 0 ≡ from_little (take 4 (drop (4 * j) l.bytes)))
