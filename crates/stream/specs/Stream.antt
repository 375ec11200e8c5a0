-- 01, section 1: the stream and its one bit, spaced, true at the start.
use Rattle.std.specs.Prelude.{ℕ, List, [], ◌∷◌, ◌++◌, Bool, not, cond, ◌||◌, eqb}
use Rattle.laws.specs.Among.{among}
use Rattle.laws.specs.Text.{ascii}
use Rattle.blank.specs.Blank.{all_blank}
use Rattle.spelling.specs.Token.{TK_SEMI, TK_LP, TK_RP, TK_COMMA, TK_DOT, TK_BLOB, TK_LBRACKET, TK_RBRACKET}
use Rattle.spelling.specs.Spelling.{spelling}

pub data Value : Type 0 where
  none : Value
  some : List ℕ → Value

pub record Token : Type 0 where
  pub kind : ℕ
  pub value : Value

-- the kinds that are written with no space before them
unfoldable pub tight : ℕ → Bool
tight k = among k (TK_COMMA ∷ TK_SEMI ∷ TK_RP ∷ TK_DOT ∷ TK_LBRACKET ∷ TK_RBRACKET ∷ [])

-- the kinds whose spelling sets the bit
unfoldable pub opens : ℕ → Bool
opens k = among k (TK_LP ∷ TK_DOT ∷ TK_LBRACKET ∷ [])

-- "If spaced is false and the kind is not [tight], write one space and set spaced."
unfoldable pub gap : Bool → ℕ → List ℕ
gap spaced k = cond (spaced || tight k) [] (ascii " ")

unfoldable pub gapped : Bool → ℕ → Bool
gapped spaced k = spaced || not (tight k)

-- "TK_BLOB: write the value, or X'' if there is none. spaced is not changed further."
unfoldable pub blob : Value → List ℕ
blob none = ascii "X''"
blob (some v) = v

-- "Any other kind: if it has a fixed spelling, write it; spaced becomes true exactly for TK_LP, TK_DOT, TK_LBRACKET."
unfoldable pub spelled_bit : Bool → ℕ → List ℕ → Bool
spelled_bit b k [] = b
spelled_bit b k (x ∷ w) = opens k

-- "Then, if there is a value, write it; spaced becomes true exactly if all its bytes are [blank]."
unfoldable pub written : Value → List ℕ
written none = []
written (some v) = v

unfoldable pub valued_bit : Bool → Value → Bool
valued_bit b none = b
valued_bit b (some v) = all_blank v

-- the bytes that a token adds where the bit is b, and the bit that it leaves; w is the fixed spelling of its kind
unfoldable pub added : Bool → ℕ → List ℕ → Value → List ℕ
added b k w v = gap b k ++ cond (eqb k TK_BLOB) (blob v) (w ++ written v)

unfoldable pub left : Bool → ℕ → List ℕ → Value → Bool
left b k w v = cond (eqb k TK_BLOB) (gapped b k) (valued_bit (spelled_bit (gapped b k) k w) v)

-- one step of the stream
unfoldable pub adds : Bool → Token → List ℕ
adds b t = added b t.kind (spelling t.kind) t.value

unfoldable pub leaves : Bool → Token → Bool
leaves b t = left b t.kind (spelling t.kind) t.value

-- the text of a list of tokens from the bit b on, and the bit after it
unfoldable pub text : Bool → List Token → List ℕ
text b [] = []
text b (t ∷ ts) = adds b t ++ text (leaves b t) ts

unfoldable pub bit : Bool → List Token → Bool
bit b [] = b
bit b (t ∷ ts) = bit (leaves b t) ts
