-- What is called for the elements of a list: what each call writes.
use Rattle.std.specs.Prelude.{ℕ, ◌≡◌, List}
use Rattle.std.specs.Borrow.{Bor, MutBor}
use Rattle.grammar.specs.Shape.{Class, slot}
use Rattle.tokens.specs.Tokens.{Out}
use Rattle.pen.specs.declared.Pen.{Pen}
use Rattle.pen.specs.declared.Input.{Input}
use Rattle.pen.specs.Pen.{Lent, Puts, Below}

-- what a call with a pen, an output and an input may answer, and leave in the output
abbrev pub Called : Type 1
Called = Pen → MutBor (List ℕ) → Bor Input → Pen → MutBor (List ℕ) → Type 0

-- each call with this input writes what f is at the pen
abbrev pub EachPuts : Input → (ℕ → Out) → Called → Type 0
EachPuts i f called = (q r : Pen) (o o' : MutBor (List ℕ)) (b : Bor Input) → b.now ≡ i → called q o b r o' → Puts i.pool.now (f q.next) (q, o.now) (r, o'.now)

-- each call writes a record in this place, with d records below one another at most
abbrev pub EachBelow : (Input → Lent) → ℕ → Class → Called → Type 0
EachBelow e d c called = (q r : Pen) (o o' : MutBor (List ℕ)) (b : Bor Input) → called q o b r o' → Below (e b.now) b.now.pool.now d (slot c) (q, o.now) (r, o'.now)
