-- A pen goes along the records of a tree and writes tokens: what a renderer does to it and to the output.
use Rattle.std.specs.Prelude.{ℕ, ◌+◌, min, ◌≡◌, List, [], ◌∷◌, Bool}
use Prim.Native.String.{String}
use Rattle.laws.specs.Text.{ascii}
use Rattle.spelling.specs.Table.{spelling_in}
use Rattle.mode.specs.declared.Edition.{Edition}
use Rattle.stream.specs.Stream.{Token}
use Rattle.stream.specs.Sink.{State, step}
use Rattle.record.specs.Record.{count}
use Rattle.record.specs.declared.Record.{Record}
use Rattle.grammar.specs.Shape.{Shape}
use Rattle.tokens.specs.Tokens.{Source, in_edition, Out, say, flagged, means, node}
use Rattle.pen.specs.declared.Pen.{Pen}
use Rattle.pen.specs.declared.Input.{Input}

-- the editions that a renderer's promise is for: every one, or the one that it is told
pub data Scope : Type 0 where
  every : Scope
  only : Edition → Scope

abbrev pub pick : Scope → Edition → Edition
pick every v = v
pick (only u) v = u

-- what is lent to a renderer, and what it is in an edition
pub record Lent : Type 0 where
  pub tree : List ℕ
  pub text : List ℕ
  pub scope : Scope

abbrev pub source_of : Edition → Lent → Source
source_of v e = in_edition e.tree e.text (pick e.scope v)

abbrev pub lent : List ℕ → List ℕ → Scope → Lent
lent t x g = record { tree = t; text = x; scope = g }

abbrev pub source : List ℕ → List ℕ → Lent
source t x = lent t x every

abbrev pub source_in : List ℕ → List ℕ → Edition → Lent
source_in t x v = lent t x (only v)

-- what an input lends: for every edition, and for the one that is asked for
abbrev pub input : Input → Lent
input i = source i.tree.now i.text.now

abbrev pub input_in : Input → Lent
input_in i = source_in i.tree.now i.text.now i.edition

-- a pen and the bytes of the output
abbrev pub Spot : Type 0
Spot = Pen × List ℕ

-- a pen goes behind the record at its index
pub record Past (t : List ℕ) (p q : Pen) : Type 0 where
  pub sink : q.sink ≡ p.sink
  pub next : q.next ≡ min (p.next + 1) (count t)

-- tokens one after the other; w is the pool of spellings that is lent
unfoldable pub emit : List ℕ → State → List Token → State
emit w st [] = st
emit w st (t ∷ ts) = emit w (step st t.kind (spelling_in w t.kind) t.value) ts

unfoldable pub put : List ℕ → Out → Spot → Spot
put w o a =
    (record { sink = (emit w (a.0.sink, a.1) o.tokens).0; next = o.next }, (emit w (a.0.sink, a.1) o.tokens).1)

-- from spot a to spot b these tokens are written, and the pen goes on to the index behind their records
pub record Puts (w : List ℕ) (o : Out) (a b : Spot) : Type 0 where
  pub is : b ≡ put w o a

-- tokens that are of no record
pub record Says (w : List ℕ) (ts : List Token) (a b : Spot) : Type 0 where
  pub puts : Puts w (say ts a.0.next) a b

-- from spot a to spot b a shape of record r is written, with d records below one another at most
pub record Writes (e : Lent) (w : List ℕ) (d : ℕ) (r : Record) (s : Shape) (a b : Spot) : Type 0 where
  pub puts : (v : Edition) → Puts w (means (source_of v e) (node (source_of v e) d) r s a.0.next) a b

-- whatever the tree, the depth and the record are; and whatever the depth and the record are
abbrev pub Anywhere : List ℕ → Shape → Spot → Spot → Type 0
Anywhere w s a b = (e : Lent) (d : ℕ) (r : Record) → Writes e w d r s a b

abbrev pub Always : Lent → List ℕ → Shape → Spot → Spot → Type 0
Always e w s a b = (d : ℕ) (r : Record) → Writes e w d r s a b

-- with d records below one another at most, whatever the record is
abbrev pub Below : Lent → List ℕ → ℕ → Shape → Spot → Spot → Type 0
Below e w d s a b = (r : Record) → Writes e w d r s a b

-- a flag bit that is read off a record's flags
abbrev pub Flag : ℕ → ℕ → Bool → Type 0
Flag bit flags on = (r : Record) → flags ≡ r.flags → on ≡ flagged bit r

-- under a flag bit of the record that is on or not: the shape is said for any bit
abbrev pub Under : Bool → (ℕ → Shape) → List ℕ → Spot → Spot → Type 0
Under on s w a b = (e : Lent) (d : ℕ) (r : Record) (bit : ℕ) → on ≡ flagged bit r → Writes e w d r (s bit) a b

-- a shape of a record with these flags
abbrev pub IfFlags : ℕ → Shape → List ℕ → Spot → Spot → Type 0
IfFlags flags s w a b = (e : Lent) (d : ℕ) (r : Record) → flags ≡ r.flags → Writes e w d r s a b

-- for bytes that are written as a text in an entry
abbrev pub WithText : List ℕ → (String → Type 0) → Type 0
WithText v f = (s : String) → v ≡ ascii s → f s
