-- 01, section 3: what a tree and a text are answered by. "Order: 1, 2, then the records by index, and at each 3, 4, 5, 6; then 7."
-- 02, vii and viii: in a mode with the switch on 9, "checked at each record after 5 and before 6", and in SQLite's edition 10, "after 9 and before 6".
use Rattle.std.specs.Prelude.{ℕ, zero, suc, ◌+◌, ◌%◌, ◌≡◌, List, [], ◌∷◌, ◌++◌, map, Bool, true, false, not, cond, ◌&&◌, ◌||◌, leb, ltb, eqb, length, replicate, Result, Ok, Err}
use Rattle.laws.specs.First.{first}
use Rattle.mode.specs.Options.{is_sqlite, plain}
use Rattle.mode.specs.declared.Mode.{Mode}
use Rattle.source.specs.Source.{ends_inside}
use Rattle.rowid.specs.Rowid.{names}
use Rattle.utf8.specs.Rfc3629 as utf8
use Rattle.utf8.specs.Rfc3629.{Encoding, Encoded, boundary}
use Rattle.spelling.specs.Spelling.{known}
use Rattle.record.specs.Record.{part, record_at, count, mark_ok}
use Rattle.record.specs.declared.Record.{Record}
use Rattle.grammar.specs.Kind.{LIST, TOKEN, RUN, TEXT, NUMBER}
use Rattle.grammar.specs.Shape.{Class, one, list, one_or, small, check_source, without_rowid, ruled}
use Rattle.grammar.specs.Grammar.{shape, root}
use Rattle.grammar.specs.Slots.{slots_of, flags_below, allowed, elements}
use Rattle.tree.specs.declared.Refusal.{Refusal}
use Rattle.tree.specs.declared.Refusal.TheVariants.{Malformed, TooLong, Broken, Mark, Misfit, Outside, Unclosed, NotRowid, Deep, Ends}

-- what a tree and a text come to: they are admitted, or a refusal
abbrev pub Answer : Type 0
Answer = Result (Unit {0}) Refusal

abbrev pub Admitted : Answer
Admitted = Ok tt

-- a place that a record must stand in: what may stand there, and how deep it is, the root being 1
pub record Place : Type 0 where
  pub class : Class
  pub depth : ℕ

abbrev pub place : ℕ → Class → Place
place d c = record { class = c; depth = d }

-- the places of a record's children: a LIST's as its own place says, a RUN's are TOKENs, and else the kind's slots
unfoldable pub holds : Class → Record → List Class
holds c r =
    cond (eqb r.kind LIST) (replicate r.kids (elements c))
    (cond (eqb r.kind RUN) (replicate r.kids (one (TOKEN ∷ []))) (slots_of (shape r.kind)))

-- a TOKEN's flags are its number and, at bit 15, whether a value is present
unfoldable pub flags_fit : Record → Bool
flags_fit r = cond (eqb r.kind TOKEN) (known (r.flags % 0x8000)) (ltb r.flags (flags_below (shape r.kind)))

-- a TEXT has a text part, and so has a TOKEN with a value
unfoldable pub has_part : Record → Bool
has_part r = eqb r.kind TEXT || (eqb r.kind TOKEN && leb 0x8000 r.flags)

-- bytes 8-15 are a text part, a number, or not used and zero
unfoldable pub fields_fit : Record → Bool
fields_fit r = has_part r || (eqb r.kind NUMBER || (eqb r.start 0 && eqb r.len 0))

-- a NUMBER where only 0 to 255 may stand: its low half is below 256 and its high half zero
unfoldable pub range_fits : Class → Record → Bool
range_fits small r = ltb r.start 256 && eqb r.len 0
range_fits (one ks) r = true
range_fits (list c) r = true
range_fits (one_or ks c) r = true
range_fits (ruled u) r = true

-- "kind not allowed here, wrong child count, undefined flag, unused field not zero, unknown token, number out of range"
unfoldable pub fits : Class → Record → Bool
fits c r =
    allowed c r.kind && (eqb r.kids (length (holds c r)) && (flags_fit r && (fields_fit r && range_fits c r)))

-- "text part not inside the text, or an end inside a character"
unfoldable pub inside : List ℕ → Record → Bool
inside x r =
    not (has_part r) || (leb (r.start + r.len) (length x) && (boundary x r.start && boundary x (r.start + r.len)))

-- "a CHECK source that ends inside a block comment or inside one of the three quotes" (02, vii)
unfoldable pub swallows : List ℕ → Class → Record → Bool
swallows x (ruled check_source) r = eqb r.kind TEXT && ends_inside (part x r.start r.len)
swallows x (ruled without_rowid) r = false
swallows x (one ks) r = false
swallows x (list c) r = false
swallows x (one_or ks c) r = false
swallows x small r = false

-- "a without-rowid text accepted only if its two parts are WITHOUT and ROWID" (02, viii)
unfoldable pub misnames : List ℕ → Class → Record → Bool
misnames x (ruled without_rowid) r = eqb r.kind TEXT && not (names (part x r.start r.len))
misnames x (ruled check_source) r = false
misnames x (one ks) r = false
misnames x (list c) r = false
misnames x (one_or ks c) r = false
misnames x small r = false

abbrev pub deepest : ℕ
deepest = 64

-- at each record 3, 4, 5, with the switch on 9, in SQLite's edition 10, and 6
unfoldable pub faults_in : Mode → List ℕ → Record → ℕ → Place → List (Bool × Answer)
faults_in m x r i p =
    (not (mark_ok r), Err (Mark i))
    ∷ (not (fits p.class r), Err (Misfit i))
    ∷ (not (inside x r), Err (Outside i))
    ∷ (m.strict && swallows x p.class r, Err (Unclosed i))
    ∷ (is_sqlite m.edition && misnames x p.class r, Err (NotRowid i))
    ∷ (ltb deepest p.depth, Err (Deep i))
    ∷ []

-- the n records from index i on, which must fill these places, in order: "children follow their parent at once".
-- 7: "a needed record is past the end, or records remain after the root"
unfoldable pub scan_in : Mode → List ℕ → List ℕ → ℕ → ℕ → List Place → Answer
scan_in m t x zero i [] = Admitted
scan_in m t x zero i (p ∷ ps) = Err (Ends i)
scan_in m t x (suc n) i [] = Err (Ends i)
scan_in m t x (suc n) i (p ∷ ps) =
    first (faults_in m x (record_at t i) i p) (scan_in m t x n (i + 1) (map (place (p.depth + 1)) (holds p.class (record_at t i)) ++ ps))

abbrev pub longest : ℕ
longest = 65536

-- "tree empty, over 65,536 bytes, or not a multiple of 16"
unfoldable pub malformed : List ℕ → Bool
malformed t = eqb (length t) 0 || (ltb longest (length t) || not (eqb (length t % 16) 0))

-- "not UTF-8"
abbrev pub or_broken : Encoding → Answer → Answer
or_broken (Ok u) a = a
or_broken (Err b) a = Err (Broken b)

-- the answer; e is what the encoding check says of the text
unfoldable pub answer_in : Mode → Encoding → List ℕ → List ℕ → Answer
answer_in m e t x =
    first
    ((malformed t, Err Malformed) ∷ (ltb longest (length x), Err TooLong) ∷ [])
    (or_broken e (scan_in m t x (count t) 0 (place 1 root ∷ [])))

pub record ChecksIn (m : Mode) (t x : List ℕ) (answer : Answer) : Type 0 where
  pub encoding : Encoding
  pub encoded : Encoded x encoding
  pub answers : answer ≡ answer_in m encoding t x

-- 01 as it is: the switch is off, and the edition is the crate's
abbrev pub faults : List ℕ → Record → ℕ → Place → List (Bool × Answer)
faults = faults_in plain

abbrev pub scan : List ℕ → List ℕ → ℕ → ℕ → List Place → Answer
scan = scan_in plain

abbrev pub answer_to : Encoding → List ℕ → List ℕ → Answer
answer_to = answer_in plain

abbrev pub Checks : List ℕ → List ℕ → Answer → Type 0
Checks = ChecksIn plain

-- the number and the place of each answer
abbrev pub number_of : Answer → ℕ
number_of (Ok u) = 0
number_of (Err Malformed) = 1
number_of (Err TooLong) = 2
number_of (Err (Broken b)) = utf8.number (Err b)
number_of (Err (Mark i)) = 3
number_of (Err (Misfit i)) = 4
number_of (Err (Outside i)) = 5
number_of (Err (Unclosed i)) = 9
number_of (Err (NotRowid i)) = 10
number_of (Err (Deep i)) = 6
number_of (Err (Ends i)) = 7

abbrev pub place_of : Answer → ℕ
place_of (Ok u) = 0
place_of (Err Malformed) = 0
place_of (Err TooLong) = longest
place_of (Err (Broken b)) = utf8.place (Err b)
place_of (Err (Mark i)) = i
place_of (Err (Misfit i)) = i
place_of (Err (Outside i)) = i
place_of (Err (Unclosed i)) = i
place_of (Err (NotRowid i)) = i
place_of (Err (Deep i)) = i
place_of (Err (Ends i)) = i
