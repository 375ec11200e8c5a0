-- What a tree writes: the tokens of a record, by its entry in the grammar (01, sections 2 and 4, and fmt.rs).
use Rattle.std.specs.Prelude.{ℕ, zero, suc, ◌+◌, ◌/◌, ◌%◌, ◌^◌, min, List, [], ◌∷◌, ◌++◌, Bool, true, false, cond, ◌&&◌, eqb, ltb, leb, take, drop}
use Rattle.laws.specs.Text.{ascii}
use Rattle.spelling.specs.Token.{TK_COMMA, TK_LP, TK_RP}
use Rattle.mode.specs.declared.Edition.{Edition}
use Rattle.mode.specs.Options.{is_sqlite}
use Rattle.stream.specs.Stream as stream
use Rattle.stream.specs.Stream.{Token}
use Rattle.stream.specs.Sink as sink
use Rattle.decimal.specs.Decimal as decimal
use Rattle.record.specs.Record.{record_at, count, number_of}
use Rattle.record.specs.declared.Record.{Record}
use Rattle.grammar.specs.Kind.{NONE, LIST, TOKEN, TEXT, NUMBER, Cmd, REPLACE}
use Rattle.grammar.specs.Shape.{Class, one, Shape, nothing, token, ident, word, said, line, when, is, slot, each, commas, row, lines, tuples, given, filled, replacing, decimal, brackets, quoted, rowid, source, both, later, ◌·◌}
use Rattle.grammar.specs.Grammar.{run, root, root_kinds, shape}
use Rattle.grammar.specs.Slots.{allowed}
use Rattle.tokens.specs.Corners.{bare, valued, id, newline, without, sourced, quote, pairs}

-- a tree and its text, and the edition that is written
pub record Source : Type 0 where
  pub tree : List ℕ
  pub text : List ℕ
  pub edition : Edition

abbrev pub in_edition : List ℕ → List ℕ → Edition → Source
in_edition t x v = record { tree = t; text = x; edition = v }

-- tokens, and the index behind the records that they are of
pub record Out : Type 0 where
  pub tokens : List Token
  pub next : ℕ

abbrev pub at : Source → ℕ → Record
at e j = record_at e.tree j

-- the index behind a record; past the end of the tree there is none
unfoldable pub behind : Source → ℕ → ℕ
behind e j = min (j + 1) (count e.tree)

-- the part of the text that a record names
abbrev pub part : Source → Record → List ℕ
part e r = take r.len (drop r.start e.text)

-- a TOKEN: "flags bits 0-14 token number, bit 15 value present"
unfoldable pub token_of : Source → Record → Token
token_of e r = record { kind = r.flags % 0x8000; value = sink.given (leb 0x8000 r.flags) (part e r) }

unfoldable pub flagged : ℕ → Record → Bool
flagged bit r = eqb (r.flags / 2 ^ bit % 2) 1

-- tokens that are of no record, and tokens of the record at j alone
abbrev pub say : List Token → ℕ → Out
say ts j = record { tokens = ts; next = j }

abbrev pub of : Source → ℕ → List Token → Out
of e j ts = record { tokens = ts; next = behind e j }

-- one behind the other
abbrev pub then : Out → (ℕ → Out) → Out
then o f = record { tokens = o.tokens ++ (f o.next).tokens; next = (f o.next).next }

-- n records from j on, each as f says, with lead before the first and sep before the others
unfoldable pub rows : (ℕ → Out) → List Token → List Token → ℕ → ℕ → Out
rows f lead sep zero j = say [] j
rows f lead sep (suc n) j = then (then (say lead j) f) (rows f sep sep n)

-- the elements of the LIST at j
unfoldable pub listed : Source → (ℕ → Out) → List Token → ℕ → Out
listed e f sep j = cond (eqb (at e j).kind LIST) (rows f [] sep (at e j).kids (behind e j)) (of e j [])

-- the record at j, if its kind may stand in the place: f says what a record of a kind writes
unfoldable pub placed : Source → (ℕ → ℕ → Out) → Class → ℕ → Out
placed e f c j = cond (allowed c (at e j).kind) (f (at e j).kind j) (of e j [])

-- tokens of the record at j, if it is of this kind
abbrev pub of_kind : Source → ℕ → ℕ → List Token → Out
of_kind e k j ts = of e j (cond (eqb (at e j).kind k) ts [])

abbrev pub comma : List Token
comma = bare TK_COMMA ∷ []

abbrev pub bracketed : (ℕ → Out) → ℕ → Out
bracketed f j = then (then (say (bare TK_LP ∷ []) j) f) (say (bare TK_RP ∷ []))

-- "present and not empty, one TK_ID token ..; absent or empty: the expression", whose tokens are given; the source is at j
unfoldable pub checked : Source → List Token → ℕ → Out
checked e ts j = of e j (cond (eqb (at e j).kind TEXT && ltb 0 (at e j).len) (sourced (part e (at e j))) ts)

-- whether anything is written
unfoldable pub anything : List Token → Bool
anything [] = false
anything (t ∷ ts) = true

-- "a comma between the two .. when both are written" (02, viii)
unfoldable pub between : Edition → List Token → List Token → List Token
between v ts us = cond (is_sqlite v && (anything ts && anything us)) comma []

-- what a shape of record r writes, the next child being at j
unfoldable pub means : Source → (ℕ → ℕ → Out) → Record → Shape → ℕ → Out
means e f r nothing j = say [] j
means e f r token j = say (token_of e r ∷ []) j
means e f r ident j = say (id (part e r) ∷ []) j
means e f r (word w) j = say (bare w ∷ []) j
means e f r (said s) j = say (id (ascii s) ∷ []) j
means e f r (line w) j = say (valued w newline ∷ []) j
means e f r (when bit a) j = cond (flagged bit r) (means e f r a j) (say [] j)
means e f r (is n a) j = cond (eqb r.flags n) (means e f r a j) (say [] j)
means e f r (slot c) j = placed e f c j
means e f r (each c) j = rows (λ k. of_kind e TOKEN k (token_of e (at e k) ∷ [])) [] [] r.kids j
means e f r (commas c) j = listed e (placed e f c) comma j
means e f r (row c) j = listed e (placed e f c) [] j
means e f r (lines c w) j = listed e (λ k. then (placed e f c k) (say (valued w newline ∷ []))) [] j
means e f r (tuples c) j = listed e (bracketed (listed e (placed e f c) comma)) comma j
means e f r (given a) j = cond (eqb (at e j).kind NONE) (of e j []) (means e f r a j)
means e f r (filled a) j = cond (eqb (at e j).kids 0) (of e j []) (means e f r a j)
means e f r (replacing a b) j = cond (eqb (at e j).kind REPLACE) (means e f r a j) (means e f r b j)
means e f r decimal j = of_kind e NUMBER j (id (decimal.decimal (number_of (at e j))) ∷ [])
means e f r brackets j = of_kind e NUMBER j (pairs (min (at e j).start 255))
means e f r quoted j = of_kind e TEXT j (quote e.edition (part e (at e j)) ∷ [])
means e f r rowid j = of_kind e TEXT j (without (part e (at e j)))
means e f r source j = checked e (placed e f run j).tokens (placed e f run j).next
means e f r (both a b) j =
    record { tokens = (means e f r a j).tokens ++ (between e.edition (means e f r a j).tokens (means e f r b (means e f r a j).next).tokens ++ (means e f r b (means e f r a j).next).tokens); next = (means e f r b (means e f r a j).next).next }
means e f r (later a b) j =
    record { tokens = (means e f r b (means e f r a j).next).tokens ++ (means e f r a j).tokens; next = (means e f r b (means e f r a j).next).next }
means e f r (a · b) j = then (means e f r a j) (means e f r b)

-- NONE, TOKEN, RUN, TEXT and NUMBER stand in for no record below them
abbrev pub leaf : ℕ → Bool
leaf k = ltb k Cmd

-- the record at j, of kind k, with at most d records that are no leaves below one another
unfoldable pub node : Source → ℕ → ℕ → ℕ → Out
node e zero k j = cond (leaf k) (means e (λ l i. of e i []) (at e j) (shape k) (behind e j)) (of e j [])
node e (suc d) k j = means e (node e d) (at e j) (shape k) (behind e j)

-- "nesting is at most 64 records"
abbrev pub deepest : ℕ
deepest = 64

-- "A root LIST .. is rendered with commas."
unfoldable pub whole : Source → ℕ → Out
whole e d =
    cond (eqb (at e 0).kind LIST) (listed e (placed e (node e d) (one root_kinds)) comma 0) (placed e (node e d) root 0)

unfoldable pub tokens_of : Source → List Token
tokens_of e = (whole e deepest).tokens

-- the text of a tree
unfoldable pub text_of : Source → List ℕ
text_of e = stream.text true (tokens_of e)
