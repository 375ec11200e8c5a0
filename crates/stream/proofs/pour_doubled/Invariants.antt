-- `stream::pour_doubled` meets its contract. The loop's invariant: the bytes before the next one are poured, each quote among them doubled.
use Prim.Native.Nat.{◌≤◌}
use mathlib.Core.Path.{◌≡◌}
use lib.ListN.{length, take}
use Rattle.stream.specs.Sink.{pour, doubled}
use Rattle.stream.proofs.pour_doubled.Given as goal

abbrev pub invariant-loop-b : goal.invariant-loop-b
invariant-loop-b l = (l.b-index ≤ length l.value) × ((l.t, l.out) ≡ pour (l.initial.t, l.initial.out) (doubled (take l.b-index l.value)))
