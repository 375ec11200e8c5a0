-- What is lent of a row of bytes from a place on is the rest of it.
use Rattle.std.specs.Prelude.{ℕ, ◌-◌, ◌≤◌, ◌≡◌, List, length, take, drop}
use Rattle.std.proofs.Common.{arith, ◌∙◌, ap, length-drop, take_all}

-- at place 0, all of it
pub rest : (s : List ℕ) (k : ℕ) → take (length s - k) (drop k s) ≡ drop k s
rest s k = take_all (length s - k) (drop k s) (omega (arith, length-drop k s))

pub length_rest : (s : List ℕ) (k : ℕ) → length (take (length s - k) (drop k s)) ≡ length s - k
length_rest s k = ap length (rest s k) ∙ length-drop k s

-- w bytes are left
pub left_of : (s : List ℕ) (k w : ℕ) → w ≤ length s - k → w ≤ length (take (length s - k) (drop k s))
left_of s k w h = rw (length_rest s k) h
