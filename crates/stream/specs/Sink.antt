-- The sink takes everything: a byte that finds no room in the output is only counted.
use Rattle.std.specs.Prelude.{ℕ, ◌+◌, min, List, [], ◌∷◌, ◌++◌, Bool, true, false, Option, Some, None, cond, eqb, length}
use Rattle.std.specs.Borrow.{Bor}
use Rattle.std.proofs.lemmas.List.Edits.{sets}
use Rattle.laws.specs.Text.{ascii}
use Rattle.stream.specs.Stream.{Value, none, some, added, left}
use Rattle.stream.specs.declared.Sink.{Sink}
pub use Rattle.store.specs.Laid.{most}

-- a sink and the bytes of the output
abbrev pub State : Type 0
State = Sink × List ℕ

-- no count goes past the largest number of the machine, and no output is that long
unfoldable pub count : ℕ → ℕ → ℕ
count at n = min (at + n) most

-- bytes are stored from the count on, as far as there is room, and all are counted
unfoldable pub pour : State → List ℕ → State
pour st bs =
    (record { spaced = st.0.spaced; at = count st.0.at (length bs) }, sets st.1 st.0.at bs)

unfoldable pub mark : State → Bool → State
mark st b = (record { spaced = b; at = st.0.at }, st.1)

-- one step: kind k, whose fixed spelling is w, with value v
unfoldable pub step : State → ℕ → List ℕ → Value → State
step st k w v = mark (pour st (added st.0.spaced k w v)) (left st.0.spaced k w v)

abbrev pub given : Bool → List ℕ → Value
given true v = some v
given false v = none

-- a value that is lent, where there is one
abbrev pub value_of : Option (Bor (List ℕ)) → Value
value_of (Some v) = some v.now
value_of None = none

-- a value between quotes
abbrev pub between : List ℕ → List ℕ
between v = ascii "'" ++ v ++ ascii "'"

-- quotes doubled (02, viii)
unfoldable pub doubled : List ℕ → List ℕ
doubled [] = []
doubled (b ∷ x) = cond (eqb b 0x27) (b ∷ b ∷ doubled x) (b ∷ doubled x)

-- a value, with each quote in it doubled or as it is
abbrev pub inside : Bool → List ℕ → List ℕ
inside twice v = cond twice (doubled v) v
