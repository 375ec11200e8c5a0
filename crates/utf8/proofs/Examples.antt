-- Examples: characters of two, three and four bytes, bytes that are no text, and which of these are cut off. Assumes nothing.
use Rattle.std.specs.Prelude.{ℕ, ◌≡◌, refl, List, [], ◌∷◌, false}
use Rattle.std.proofs.Common.{◌∙◌, sym, arith}
use Rattle.std.proofs.lemmas.Bool.{false≢true}
use Rattle.utf8.specs.Rfc3629.{Text, Begins}
use Rattle.utf8.specs.Scan.{ones, low, high, two as two', three, four, counted, width, long, begins}
use Rattle.utf8.proofs.Characters.{width_none}
use Rattle.utf8.proofs.Beginnings.{begins_true}
use Rattle.utf8.specs.Laws.{text_first}

-- U+0000 in two bytes and in three
overlong_two : Text (0xC0 ∷ 0x80 ∷ []) → ⊥
unfolding width counted ones two'
overlong_two t = text_first t (width_none (0xC0 ∷ 0x80 ∷ []) refl) (omega arith)

overlong_three : Text (0xE0 ∷ 0x80 ∷ 0x80 ∷ []) → ⊥
unfolding width counted ones three low high
overlong_three t = text_first t (width_none (0xE0 ∷ 0x80 ∷ 0x80 ∷ []) refl) (omega arith)

-- the surrogate U+D800
surrogate : Text (0xED ∷ 0xA0 ∷ 0x80 ∷ []) → ⊥
unfolding width counted ones three low high
surrogate t = text_first t (width_none (0xED ∷ 0xA0 ∷ 0x80 ∷ []) refl) (omega arith)

-- one past the last character
past_last : Text (0xF4 ∷ 0x90 ∷ 0x80 ∷ 0x80 ∷ []) → ⊥
unfolding width counted ones four low high
past_last t = text_first t (width_none (0xF4 ∷ 0x90 ∷ 0x80 ∷ 0x80 ∷ []) refl) (omega arith)

-- a tail with no lead, and a character cut short
lone_tail : Text (0x80 ∷ []) → ⊥
unfolding width counted ones
lone_tail t = text_first t (width_none (0x80 ∷ []) refl) (omega arith)

cut_short : Text (0xE2 ∷ 0x82 ∷ []) → ⊥
unfolding width counted ones three
cut_short t = text_first t (width_none (0xE2 ∷ 0x82 ∷ []) refl) (omega arith)

-- an overlong form, a surrogate and a byte that begins nothing are none, however they go on
no_beginning : (s : List ℕ) → begins s ≡ false → Begins s → ⊥
no_beginning s e b = false≢true (sym e ∙ begins_true s b)

overlong_begun : Begins (0xF0 ∷ 0x80 ∷ []) → ⊥
unfolding begins long ones low high
overlong_begun = no_beginning (0xF0 ∷ 0x80 ∷ []) refl

surrogate_begun : Begins (0xED ∷ 0xA0 ∷ []) → ⊥
unfolding begins long ones low high
surrogate_begun = no_beginning (0xED ∷ 0xA0 ∷ []) refl

nothing_begun : Begins (0xC0 ∷ []) → ⊥
unfolding begins long
nothing_begun = no_beginning (0xC0 ∷ []) refl
