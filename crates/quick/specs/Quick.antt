-- A token that is laid at once: a plain value alone, or a spelling alone, with room for it.
use Rattle.std.specs.Prelude.{ℕ, ◌+◌, ◌-◌, ◌/◌, ◌%◌, ◌^◌, ◌≡◌, List, [], ◌∷◌, map, Bool, Option, Some, None, not, cond, ◌&&◌, eqb, leb, length}
use Rattle.std.proofs.lemmas.List.Edits.{sets}
use Rattle.laws.specs.Among.{among}
use Rattle.utf8.specs.Plain.{few, all_plain}
use Rattle.spelling.specs.Spelling.{spelling}
use Rattle.spelling.specs.Token.{TK_ID, TK_STRING, TK_INTEGER, TK_FLOAT, TK_VARIABLE, TK_JOIN_KW, TK_LIKE_KW, TK_CTIME_KW, TK_PTR}
use Rattle.store.specs.Laid.{room_for}
use Rattle.stream.specs.declared.Sink.{Sink}
use Rattle.append.specs.declared.Stream.{Stream}
use Rattle.append.specs.Append.{number_of, present, longest}

-- the kinds that are written by their value alone: TK_ID, which most are, and others
abbrev pub other_kinds : List ℕ
other_kinds = TK_STRING ∷ TK_INTEGER ∷ TK_FLOAT ∷ TK_VARIABLE ∷ TK_JOIN_KW ∷ TK_LIKE_KW ∷ TK_CTIME_KW ∷ TK_PTR ∷ []

-- their token words with a value
abbrev pub alone_words : List ℕ
alone_words = map (λ k. 0x8000 + k) (TK_ID ∷ other_kinds)

unfoldable pub alone : ℕ → Bool
alone token = among token alone_words

-- a set of marks has the one that is spelled as b
unfoldable pub marked : ℕ → ℕ → Bool
marked set b = eqb (set / 2 ^ ((b + 24) % 64) % 2) 1

abbrev pub tight_marks : ℕ
tight_marks = 0x28_0000_0008_0052

abbrev pub opening_marks : ℕ
opening_marks = 0x8_0000_0000_0041

-- a value may be laid at once: it is of such a kind, plain, not over-long, and a space and all of it have room. Whether it has few bytes is asked apart
unfoldable pub value_may : Bool → Stream → ℕ → ℕ → List ℕ → Bool
value_may sized rec size token value =
    alone token && ((sized && all_plain value) && (leb (length value) longest && room_for rec.count size value))

abbrev pub few_may : Stream → ℕ → ℕ → List ℕ → Bool
few_may rec size token value = value_may (few value) rec size token value

abbrev pub many_may : Stream → ℕ → ℕ → List ℕ → Bool
many_may rec size token value = value_may (not (few value)) rec size token value

-- and a spelling: there is no value, and a space and all of it have room
unfoldable pub word_may : Stream → ℕ → ℕ → Bool
word_may rec size token = not (present token) && room_for rec.count size (spelling (number_of token))

-- what comes of bytes that are laid behind the record's count where they may, and leave the bit; and what is in the output then
unfoldable pub quick : Bool → Stream → List ℕ → Bool → Option Sink
quick may rec bytes bit = cond may (Some (record { spaced = bit; at = rec.count + length bytes })) None

unfoldable pub quick_out : Bool → Stream → List ℕ → List ℕ → List ℕ
quick_out may rec out bytes = cond may (sets out rec.count bytes) out

abbrev pub Comes : Bool → Stream → List ℕ → List ℕ → Bool → Option Sink → List ℕ → Type 0
Comes may rec out bytes bit r out' = (r ≡ quick may rec bytes bit) × (out' ≡ quick_out may rec out bytes)

-- the record that is left where no newline was laid: the line stays, and the column goes on
abbrev pub on_line : Stream → Sink → Stream
on_line rec s = record { spaced = s.spaced; count = s.at; line = rec.line; column = rec.column + (s.at - rec.count) }
