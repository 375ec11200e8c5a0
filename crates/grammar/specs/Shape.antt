-- What a kind of record holds and writes, as data: the form of an entry of the grammar.
use Rattle.std.specs.Prelude.{ℕ, List}
use Prim.Native.String.{String}

infixr 30 ◌·◌
-- a TEXT that a request of 02 has a rule for
pub data Rule : Type 0 where
  check_source : Rule  -- a CHECK's source (vii)
  without_rowid : Rule  -- the without_rowid_lem text (viii)

-- what may stand in a place (01, section 2)
pub data Class : Type 0 where
  one : List ℕ → Class  -- a record of one of these kinds
  list : Class → Class  -- a LIST, one such place an element
  one_or : List ℕ → Class → Class  -- a record of one of these kinds, or a LIST of such places
  small : Class  -- a NUMBER from 0 to 255
  ruled : Rule → Class  -- a TEXT with a rule, or NONE

-- what is written, and which children are held, in the order in which they are written
pub data Shape : Type 0 where
  nothing : Shape
  token : Shape  -- the token that the record itself is
  ident : Shape  -- TK_ID with the record's text
  word : ℕ → Shape  -- a token with no value
  said : String → Shape  -- TK_ID with this text
  line : ℕ → Shape  -- a token with a newline as its value
  when : ℕ → Shape → Shape  -- under a flag bit
  is : ℕ → Shape → Shape  -- where the flags are this number
  slot : Class → Shape  -- the next child, as it is
  each : Class → Shape  -- all children, one behind the other
  commas : Class → Shape  -- the next child, a LIST, with commas
  row : Class → Shape  -- the next child, a LIST, one behind the other
  lines : Class → ℕ → Shape  -- the next child, a LIST, this token with a newline behind each
  tuples : Class → Shape  -- the next child, a LIST of LISTs: each in brackets and with commas, commas between
  given : Shape → Shape  -- unless the next child is NONE
  filled : Shape → Shape  -- unless the next child is an empty LIST
  replacing : Shape → Shape → Shape  -- where the next child is REPLACE, and where it is not; both hold the same
  decimal : Shape  -- the next child, a NUMBER or NONE, as TK_ID
  brackets : Shape  -- the next child, a small NUMBER: so many pairs of brackets
  quoted : Shape  -- the next child, a TEXT, as TK_STRING between quotes
  rowid : Shape  -- the next child, the without_rowid_lem TEXT or NONE (section 4)
  source : Shape  -- the next children, a CHECK's expression and its source TEXT or NONE (section 4)
  both : Shape → Shape → Shape  -- one behind the other; in SQLite's edition with a comma between them where both are written
  later : Shape → Shape → Shape  -- held in this order, written in the other
  ◌·◌ : Shape → Shape → Shape
