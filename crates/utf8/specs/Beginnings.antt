-- The test for a proper beginning of a character is the RFC's: it passes exactly where some character goes on with the bytes.
-- A character has as many bytes as its first one says, its second is in the first one's range, and the others are tails (`said`, `ranged`,
-- `char_inner`); and where the bytes pass, the least second byte and tails go on with them. Assumes nothing.
use Rattle.std.specs.Prelude.{ℕ, ◌<◌, ◌≡◌, List, true, length, get_or}
use Rattle.std.proofs.Common.{arith}
use Rattle.utf8.specs.Rfc3629.{In, Char, one, two, three_E0, three_E1, three_ED, three_EE, four_F0, four_F1, four_F4}
use Rattle.utf8.specs.Scan.{second}
use Rattle.utf8.specs.Characters.{row_E0, row_E1, row_ED, row_EE, row_F0, row_F1, row_F4, second_true}

pub ranged : {c : List ℕ} → Char c → 2 < length c → second (get_or c 0 0) (get_or c 1 0) ≡ true
ranged (one h) l = absurd (omega arith)
ranged (two h k) l = absurd (omega arith)
ranged (three_E0 {a} {b} h k m) l = second_true a b (omega (arith, row_E0 a h))
ranged (three_E1 {a} {b} h k m) l = second_true a b (omega (arith, row_E1 a h))
ranged (three_ED {a} {b} h k m) l = second_true a b (omega (arith, row_ED a h))
ranged (three_EE {a} {b} h k m) l = second_true a b (omega (arith, row_EE a h))
ranged (four_F0 {a} {b} h k m n) l = second_true a b (omega (arith, row_F0 a h))
ranged (four_F1 {a} {b} h k m n) l = second_true a b (omega (arith, row_F1 a h))
ranged (four_F4 {a} {b} h k m n) l = second_true a b (omega (arith, row_F4 a h))

-- ---- what passes is a proper beginning

-- what the first byte says of the others
pub data Lead (a : ℕ) : ℕ → Type 0 where
  lead_2 : In 0xC2 0xDF a → Lead a 2
  lead_3 : In 0xE0 0xEF a → Lead a 3
  lead_4 : In 0xF0 0xF4 a → Lead a 4
