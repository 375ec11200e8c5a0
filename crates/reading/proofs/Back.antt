-- The text of a readable stream is cut into its lexemes: token by token, each is read whole since what follows it ends it. After a token stands
-- one of three: a newline; nothing, with a space or a mark to come (the bit is false); or anything at all, if it was a mark or a blob.
use Rattle.std.specs.Prelude.{ℕ, ◌≡◌, refl, List, [], ◌∷◌, ◌++◌, Bool, true, false, not, cond, ◌||◌, ◌&&◌, eqb, get_or}
use Rattle.std.proofs.Common.{ap, subst, sym, ◌∙◌, append_assoc, append-nil, eqb-true}
use Rattle.std.proofs.lemmas.Bool.{false≢true, not-true}
use Rattle.std.proofs.Math.Bool.{and-true}
use Rattle.laws.specs.Among.{among, is_nil, each}
use Rattle.laws.specs.Tests.{and_left, and_right, or_left}
use Rattle.laws.specs.Text.{ascii}
use Rattle.blank.specs.Blank.{blank, all_blank}
use Rattle.spelling.specs.Rows.{rows}
use Rattle.spelling.specs.Spelling.{row, spelling}
use Rattle.spelling.specs.Token.{TK_SEMI, TK_LP, TK_RP, TK_COMMA, TK_DOT, TK_BLOB, TK_LBRACKET, TK_RBRACKET}
use Rattle.stream.specs.Stream as stream
use Rattle.stream.specs.Stream.{Token, Value, none, some, tight, opens, gap, written, spelled_bit, valued_bit, added, left, adds, leaves, text}
use Rattle.reading.specs.Bytes.{digit, word_first, marks, dot, newline}
use Rattle.reading.specs.Lexeme.{Kind, Word, Number, Quoted, Blob, Variable, Operator, Mark, operators, close, Lexeme, blob as a_blob, mark as a_mark}
use Rattle.reading.specs.Reading.{Start, mark, nothing, blank as skipped, operator_byte, start, lexeme, read, Lexed, Cuts, ended, failed, next}
use Rattle.reading.specs.Readable.{is_number, Carries, fixed, word_line, semi_line, valued, blob, no_blob, is_dot, beside, no_dot_beside_number, Carried, done, next as more}
use Rattle.reading.proofs.ReadWhole.{alike, start_of, Begins, starts_mark, first_byte, closers, loose, ends, reads}

-- a lexeme has a first byte, so it is not empty, and that byte is no blank of the stream
abbrev idle : Start → Bool
idle s = alike s skipped || alike s nothing

not_idle : (κ : Kind) → idle (start_of κ) ≡ false
not_idle Word = refl
not_idle Number = refl
not_idle Quoted = refl
not_idle Blob = refl
not_idle Variable = refl
not_idle Operator = refl
not_idle Mark = refl

blank_idle : (b : ℕ) → blank b ≡ true → idle (start b) ≡ true
unfolding blank start digit word_first operator_byte operators
blank_idle b h = each (λ c. idle (start c)) b (0x09 ∷ 0x0A ∷ 0x0C ∷ 0x0D ∷ 0x20 ∷ []) refl h

first_solid : (κ : Kind) (b : ℕ) → start b ≡ start_of κ → blank b ≡ false
first_solid κ b e = by (blank b) refl
  where
    by : (t : Bool) → blank b ≡ t → blank b ≡ false
    by true h = absurd (false≢true (sym (not_idle κ) ∙ ap idle (sym e) ∙ blank_idle b h))
    by false h = h

not_blank : (κ : Kind) (w : List ℕ) → Lexeme κ w → all_blank w ≡ false
unfolding all_blank
not_blank κ w l = let f : Begins κ w = first_byte κ w l in rw (f.is, first_solid κ f.byte f.starts)

-- TK_BLOB has no fixed spelling, so a kind whose spelling is a lexeme is another
no_spelling : spelling TK_BLOB ≡ []
unfolding spelling row rows
no_spelling = refl

not_blob : (k : ℕ) (κ : Kind) (w : List ℕ) → spelling k ≡ w → Lexeme κ w → eqb k TK_BLOB ≡ false
not_blob k κ w e l = by (eqb k TK_BLOB) refl
  where
    by : (t : Bool) → eqb k TK_BLOB ≡ t → eqb k TK_BLOB ≡ false
    by true h = absurd (false≢true (ap is_nil (sym (first_byte κ w l).is ∙ sym e ∙ ap spelling (eqb-true k TK_BLOB h) ∙ no_spelling)))
    by false h = h

-- the kinds that are written tight, and those that open, are spelled as marks
abbrev marked : List ℕ → Bool
marked [] = false
marked (m ∷ []) = among m marks
marked (m ∷ n ∷ w) = false

tight_marked : (k : ℕ) → tight k ≡ true → marked (spelling k) ≡ true
unfolding tight spelling row rows
tight_marked k h = each (λ j. marked (spelling j)) k (TK_COMMA ∷ TK_SEMI ∷ TK_RP ∷ TK_DOT ∷ TK_LBRACKET ∷ TK_RBRACKET ∷ []) refl h

opens_marked : (k : ℕ) → opens k ≡ true → marked (spelling k) ≡ true
unfolding opens spelling row rows
opens_marked k h = each (λ j. marked (spelling j)) k (TK_LP ∷ TK_DOT ∷ TK_LBRACKET ∷ []) refl h

-- a lexeme that is spelled as a mark is one, and needs nothing behind it
mark_loose : (κ : Kind) → start_of κ ≡ mark → loose κ ≡ true
mark_loose Word e = absurd (false≢true (ap (alike mark) e))
mark_loose Number e = absurd (false≢true (ap (alike mark) e))
mark_loose Quoted e = absurd (false≢true (ap (alike mark) e))
mark_loose Blob e = refl
mark_loose Variable e = absurd (false≢true (ap (alike mark) e))
mark_loose Operator e = absurd (false≢true (ap (alike mark) e))
mark_loose Mark e = refl

marked_loose : (κ : Kind) (w : List ℕ) → marked w ≡ true → Lexeme κ w → loose κ ≡ true
marked_loose κ [] h l = absurd (false≢true h)
marked_loose κ (m ∷ []) h l =
    let f : Begins κ (m ∷ []) = first_byte κ (m ∷ []) l in
    mark_loose κ (sym f.starts ∙ ap (λ (x : List ℕ). start (get_or x 0 0)) (sym f.is) ∙ starts_mark m h)
marked_loose κ (m ∷ n ∷ w) h l = absurd (false≢true h)

-- a mark ends every lexeme, but a dot no number
mark_closes : (n : Bool) (m : ℕ) → among m marks ≡ true → (n && eqb m dot) ≡ false → among m (cond n (ascii " \n,;()[]") (ascii " \n,;()[].")) ≡ true
mark_closes true m i h =
    let t : (eqb m dot || among m (ascii " \n,;()[]")) ≡ true = each (λ c. eqb c dot || among c (ascii " \n,;()[]")) m marks refl i in
    rw h at t
mark_closes false m i h = each (λ c. among c (ascii " \n,;()[].")) m marks refl i

-- what stands behind a token's spelling, and the bit then
data After (κ : Kind) : List ℕ → Bool → Type 0 where
  spaced_next : After κ [] false
  line : {b : Bool} → After κ (newline ∷ []) b
  any : {b : Bool} → loose κ ≡ true → After κ [] b

-- a carrier writes its spelling, behind at most a space and before at most a newline
record Written (b : Bool) (k : ℕ) (v : Value) (κ : Kind) (w : List ℕ) : Type 0 where
  behind : List ℕ
  adds : added b k (spelling k) v ≡ gap b k ++ (w ++ behind)
  is : Lexeme κ w
  after : After κ behind (left b k (spelling k) v)

fixed_bit : (b : Bool) (k : ℕ) (κ : Kind) (w : List ℕ) → spelling k ≡ w → Lexeme κ w → left b k (spelling k) none ≡ opens k
unfolding left valued_bit spelled_bit
fixed_bit b k κ w e l =
    let f : Begins κ w = first_byte κ w l in
    rw (not_blob k κ w e l, e, f.is)

fixed_after : (b : Bool) (k : ℕ) (κ : Kind) (w : List ℕ) → spelling k ≡ w → Lexeme κ w → After κ [] (left b k (spelling k) none)
fixed_after b k κ w e l = rw (fixed_bit b k κ w e l) (by (opens k) refl)
  where
    by : (t : Bool) → opens k ≡ t → After κ [] t
    by true h = any (marked_loose κ w (subst (λ (x : List ℕ). marked x ≡ true) e (opens_marked k h)) l)
    by false h = spaced_next

a_semi : Lexeme Mark (ascii ";")
a_semi = a_mark refl

an_empty_blob : Lexeme Blob (ascii "X''")
an_empty_blob = a_blob refl close

-- the bytes of each way to carry
word_adds : (b : Bool) (k : ℕ) (κ : Kind) (v : Value) (w : List ℕ) → spelling k ≡ w → Lexeme κ w → added b k (spelling k) v ≡ gap b k ++ (w ++ written v)
unfolding added
word_adds b k κ v w e l = rw (not_blob k κ w e l, e)

value_adds : (b : Bool) (k : ℕ) (w : List ℕ) → eqb k TK_BLOB ≡ false → spelling k ≡ [] → added b k (spelling k) (some w) ≡ gap b k ++ (w ++ [])
unfolding added written
value_adds b k w n e = rw (n, e, append-nil w)

value_bit : (b : Bool) (k : ℕ) (κ : Kind) (w : List ℕ) → eqb k TK_BLOB ≡ false → Lexeme κ w → left b k (spelling k) (some w) ≡ false
unfolding left valued_bit
value_bit b k κ w n l = rw (n, not_blank κ w l)

blob_adds : (b : Bool) (k : ℕ) (v : Value) → eqb k TK_BLOB ≡ true → added b k (spelling k) v ≡ gap b k ++ (stream.blob v ++ [])
unfolding added
blob_adds b k v n = rw (n, append-nil (stream.blob v))

writes : (b : Bool) (k : ℕ) (v : Value) (κ : Kind) (w : List ℕ) → Carries k v κ w → Written b k v κ w
unfolding written stream.blob
writes b k _ κ w (fixed e f l) = record { behind = []; adds = word_adds b k κ none w e l; is = l; after = fixed_after b k κ w e l }
writes b k _ _ w (word_line e l) = record { behind = newline ∷ []; adds = word_adds b k Word (some (newline ∷ [])) w e l; is = l; after = line }
writes b k _ _ _ (semi_line e) =
    record { behind = newline ∷ []; adds = word_adds b k Mark (some (newline ∷ [])) (ascii ";") e a_semi; is = a_semi; after = line }
writes b k _ κ w (valued n e m l) = record { behind = []; adds = value_adds b k w n e; is = l; after = rw (value_bit b k κ w n l) spaced_next }
writes b k _ _ w (blob n l) = record { behind = []; adds = blob_adds b k (some w) n; is = l; after = any refl }
writes b k _ _ _ (no_blob n) = record { behind = []; adds = blob_adds b k none n; is = an_empty_blob; after = any refl }

-- a space and a newline end every lexeme, and a mark does, but a dot no number
space_ends : (κ : Kind) (r : List ℕ) → ends κ (0x20 ∷ r) ≡ true
space_ends Word r = refl
space_ends Number r = refl
space_ends Quoted r = refl
space_ends Blob r = refl
space_ends Variable r = refl
space_ends Operator r = refl
space_ends Mark r = refl

newline_ends : (κ : Kind) (r : List ℕ) → ends κ (newline ∷ r) ≡ true
newline_ends Word r = refl
newline_ends Number r = refl
newline_ends Quoted r = refl
newline_ends Blob r = refl
newline_ends Variable r = refl
newline_ends Operator r = refl
newline_ends Mark r = refl

mark_ends : (p : Kind) (w u : List ℕ) → marked w ≡ true → (is_number p && is_dot w) ≡ false → ends p (w ++ u) ≡ true
mark_ends p [] u h a = absurd (false≢true h)
mark_ends p (m ∷ []) u h a = by (loose p) (mark_closes (is_number p) m h (rw and-true at a))
  where
    by : (t : Bool) → among m (closers p) ≡ true → (t || among m (closers p)) ≡ true
    by true i = refl
    by false i = i
mark_ends p (m ∷ n ∷ w) u h a = absurd (false≢true h)

-- a kind that is spelled as a mark carries that mark
unspelled : (k : ℕ) → spelling k ≡ [] → marked (spelling k) ≡ true → ⊥
unspelled k e h = false≢true (ap marked (sym e) ∙ h)

blob_unspelled : (k : ℕ) → eqb k TK_BLOB ≡ true → spelling k ≡ []
blob_unspelled k n = ap spelling (eqb-true k TK_BLOB n) ∙ no_spelling

carried_mark : (k : ℕ) (v : Value) (κ : Kind) (w : List ℕ) → Carries k v κ w → marked (spelling k) ≡ true → marked w ≡ true
carried_mark k _ κ w (fixed e f l) h = subst (λ (x : List ℕ). marked x ≡ true) e h
carried_mark k _ _ w (word_line e l) h = subst (λ (x : List ℕ). marked x ≡ true) e h
carried_mark k _ _ _ (semi_line e) h = refl
carried_mark k _ κ w (valued n e m l) h = absurd (unspelled k e h)
carried_mark k _ _ w (blob n l) h = absurd (unspelled k (blob_unspelled k n) h)
carried_mark k _ _ _ (no_blob n) h = absurd (unspelled k (blob_unspelled k n) h)

-- what a token adds where the bit is false ends the lexeme before it: a space stands first, or a mark
next_ends : (p κ : Kind) (k : ℕ) (v : Value) (w u : List ℕ) → Carries k v κ w → (is_number p && is_dot w) ≡ false → ends p (added false k (spelling k) v ++ u) ≡ true
unfolding gap
next_ends p κ k v w u c a =
    let s : Written false k v κ w = writes false k v κ w c in
    rw s.adds (by (tight k) refl s.behind)
  where
    by : (t : Bool) → tight k ≡ t → (x : List ℕ) → ends p ((gap false k ++ (w ++ x)) ++ u) ≡ true
    by true h x = rw (h, append_assoc w x u) (mark_ends p w (x ++ u) (carried_mark k v κ w c (tight_marked k h)) a)
    by false h x = rw h (space_ends p ((w ++ x) ++ u))

apart_before : (p κ : Kind) (u w : List ℕ) (ls : List Lexed) → no_dot_beside_number ((p, u) ∷ (κ, w) ∷ ls) ≡ true → (is_number p && is_dot w) ≡ false
apart_before p κ u w ls h =
    or_left (is_number p && is_dot w) (is_dot u && is_number κ) (not-true (beside (p, u) (κ, w)) (and_left (not (beside (p, u) (κ, w))) (no_dot_beside_number ((κ, w) ∷ ls)) h))

apart_later : (a : Lexed) (ls : List Lexed) → no_dot_beside_number (a ∷ ls) ≡ true → no_dot_beside_number ls ≡ true
apart_later a [] h = refl
apart_later a (b ∷ ls) h = and_right (not (beside a b)) (no_dot_beside_number (b ∷ ls)) h

-- what follows a token ends its lexeme
follows : (κ : Kind) (w x : List ℕ) (b : Bool) (ts : List Token) (ls : List Lexed) → After κ x b → Carried ts ls → no_dot_beside_number ((κ, w) ∷ ls) ≡ true → ends κ (x ++ text b ts) ≡ true
unfolding text adds
follows κ w _ _ _ _ spaced_next done h = refl
follows κ w _ _ _ _ spaced_next (more {t} {ts} {κ = κ'} {w = w'} {ls} c d) h =
    next_ends κ κ' t.kind t.value w' (text (leaves false t) ts) c (apart_before κ κ' w w' ls h)
follows κ w _ b ts _ line d h = newline_ends κ (text b ts)
follows κ w _ b ts _ (any l) d h = by (text b ts)
  where
    by : (r : List ℕ) → ends κ r ≡ true
    by [] = refl
    by (c ∷ r) = rw l

-- texts that are read alike are cut alike
cuts_alike : (t u : List ℕ) (ls : List Lexed) (r : List ℕ) → read t ≡ read u → Cuts u ls r → Cuts t ls r
cuts_alike t u _ _ e (ended h) = ended (e ∙ h)
cuts_alike t u _ _ e (failed h) = failed (e ∙ h)
cuts_alike t u _ _ e (next h c) = next (e ∙ h) c

read_gap : (b : Bool) (k : ℕ) (t : List ℕ) → read (gap b k ++ t) ≡ read t
unfolding gap read start
read_gap b k t = by (b || tight k)
  where
    by : (c : Bool) → read (cond c [] (ascii " ") ++ t) ≡ read t
    by true = refl
    by false = refl

read_after : (κ : Kind) (x : List ℕ) (b : Bool) (t : List ℕ) → After κ x b → read (x ++ t) ≡ read t
unfolding read start
read_after κ _ _ t spaced_next = refl
read_after κ _ _ t line = refl
read_after κ _ _ t (any l) = refl

-- one token, and what is cut behind it
one_then : (b : Bool) (t : Token) (ts : List Token) (ls : List Lexed) (κ : Kind) (w : List ℕ) → Written b t.kind t.value κ w → Carried ts ls → no_dot_beside_number ((κ, w) ∷ ls) ≡ true
    → Cuts (text (leaves b t) ts) ls [] → Cuts (adds b t ++ text (leaves b t) ts) ((κ, w) ∷ ls) []
unfolding adds leaves
one_then b t ts ls κ w s d h rest =
    let r : List ℕ = text (leaves b t) ts in
    let e : adds b t ++ r ≡ gap b t.kind ++ (w ++ (s.behind ++ r)) = ap (λ (x : List ℕ). x ++ r) s.adds ∙ simp append_assoc in
    let f : read (w ++ (s.behind ++ r)) ≡ lexeme κ w (s.behind ++ r) = reads κ w (s.behind ++ r) s.is (follows κ w s.behind (leaves b t) ts ls s.after d h) in
    next (ap read e ∙ read_gap b t.kind (w ++ (s.behind ++ r)) ∙ f)
    (cuts_alike (s.behind ++ r) r ls [] (read_after κ s.behind (leaves b t) r s.after) rest)

-- the whole stream, from either value of the bit
pub cuts_back : (b : Bool) (ts : List Token) (ls : List Lexed) → Carried ts ls → no_dot_beside_number ls ≡ true → Cuts (text b ts) ls []
unfolding text read
cuts_back b _ _ done h = ended refl
cuts_back b _ _ (more {t} {ts} {κ} {w} {ls} c d) h =
    one_then b t ts ls κ w (writes b t.kind t.value κ w c) d h (cuts_back (leaves b t) ts ls d (apart_later (κ, w) ls h))
