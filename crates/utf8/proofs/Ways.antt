-- The ways through the code against the definitions: the three through `two`, `three` and `four` (too few bytes, a character, none),
-- and the one through `char_len`, by the count of ones. Assumes nothing.
use Prim.Native.Nat.{ℕ, ◌≤◌, ◌<◌}
use mathlib.Core.Path.{◌≡◌}
use mathlib.Core.List.{List, [], ◌∷◌}
use mathlib.Core.Bool.{Bool, true, false}
use native.Mathlib.Nat.{not-suc-le-zero}
use lib.ListN.{length, get_or}
use borrow.Author.Tests.{le-leb, lt-leb}
use Rattle.utf8.specs.Scan.{ones, passing, counted, width}

module _ (s : List ℕ) (n : ℕ) (b : Bool) where
  pub short : length s < n → 0 ≡ passing n b s
  short h = rw (lt-leb n (length s) h)

  pub whole : n ≤ length s → b ≡ true → n ≡ passing n b s
  whole h e = rw (le-leb n (length s) h, e)

  pub wrong : n ≤ length s → b ≡ false → 0 ≡ passing n b s
  wrong h e = rw (le-leb n (length s) h, e)

pub by_ones : (s : List ℕ) (n : ℕ) → 0 < length s → n ≡ ones (get_or s 0 0) → width s ≡ counted n s
unfolding width
by_ones [] n h e = absurd (not-suc-le-zero h)
by_ones (a ∷ s) n h e = rw e
