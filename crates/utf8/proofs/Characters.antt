-- The length that `Scan` finds is the RFC's: it is that of the character that begins the bytes, and 0 only where none does.
-- A character's length goes by its first byte, so two characters that begin the same bytes are the same.
-- Assumes nothing.
use Rattle.std.specs.Prelude.{ℕ, ◌≡◌, List, ◌++◌, length}
use Rattle.std.proofs.Common.{◌∙◌, ap, sym, arith}
use Rattle.std.proofs.Math.Seq.{take-append_seam, drop-append_seam}
use Rattle.utf8.specs.Rfc3629.{Char}
use Rattle.utf8.specs.Scan.{width}
use Rattle.utf8.specs.Characters.{width_char, NoChar, char_length}

pub width_none : (s : List ℕ) → width s ≡ 0 → NoChar s
width_none s e c t h p = omega (arith, char_length h, width_char h t, ap width p)

-- two characters that begin the same bytes are the same
pub char_prefix : {c d : List ℕ} → Char c → Char d → (t u : List ℕ) → c ++ t ≡ d ++ u → c ≡ d
char_prefix {c} {d} h k t u e =
    let n : length c ≡ length d = sym (width_char h t) ∙ ap width e ∙ width_char k u in
    cc (take-append_seam c t, take-append_seam d u)

-- and so are the bytes after them
pub char_rest : {c d : List ℕ} → Char c → Char d → (t u : List ℕ) → c ++ t ≡ d ++ u → t ≡ u
char_rest {c} {d} h k t u e =
    let n : c ≡ d = char_prefix h k t u e in
    cc (drop-append_seam c t, drop-append_seam d u)
