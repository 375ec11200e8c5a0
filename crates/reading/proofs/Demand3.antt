-- Demand 3: "the text of demand 2, cut by 01's reading rule, gives back exactly the stream's spellings in order. So readable streams with
-- different spellings never share a text."
use Rattle.std.specs.Prelude.{ℕ, ◌≡◌, List, [], map, true}
use Rattle.std.proofs.Common.{ap, subst, sym}
use Rattle.stream.specs.Stream.{Token, text}
use Rattle.tokens.specs.Tokens.{Source, tokens_of, text_of}
use Rattle.reading.specs.Reading.{Lexed, Cuts}
use Rattle.reading.specs.Readable.{Readable}
use Rattle.reading.proofs.Back.{cuts_back}
use Rattle.reading.proofs.Once.{cut_once}

-- the spellings of lexemes, in order
abbrev pub spellings : List Lexed → List (List ℕ)
spellings ls = map (λ l. l.1) ls

-- a readable stream's text, cut from end to end, gives its lexemes, with nothing left that could not be read
pub gives_back : (ts : List Token) (ls : List Lexed) → Readable ts ls → Cuts (text true ts) ls []
gives_back ts ls r = cuts_back true ts ls r.carried r.apart

-- and it is cut in no other way; so streams with different spellings never share a text
pub never_shared : (ts us : List Token) (ls ms : List Lexed) → Readable ts ls → Readable us ms → text true ts ≡ text true us → spellings ls ≡ spellings ms
never_shared ts us ls ms r s e =
    ap spellings (cut_once (text true ts) ls ms [] [] (gives_back ts ls r) (subst (λ (t : List ℕ). Cuts t ms []) (sym e) (gives_back us ms s))).0

-- what a tree writes is the text of its tokens, so all of this holds of what measure and render say
pub tree_gives_back : (e : Source) (ls : List Lexed) → Readable (tokens_of e) ls → Cuts (text_of e) ls []
unfolding text_of
tree_gives_back e ls r = gives_back (tokens_of e) ls r
