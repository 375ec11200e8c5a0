-- 02, iii: what the call gives is determined, and "Cut from end to end" by calling it on the rest again and again: exactly the lexemes of the reading rule.
use Rattle.std.specs.Prelude.{ℕ, ◌-◌, ◌≡◌, refl, List, [], true, length, drop}
use Rattle.std.proofs.Common.{arith, not-suc-le-zero, sym, ap, subst}
use Rattle.reading.specs.Reading.{Read, lexeme, finish, failure, read, Lexed, Cuts, ended, failed, next}
use Rattle.reading.specs.Readable.{Readable}
use Rattle.reading.proofs.Once.{cut_once}
use Rattle.reading.proofs.Demand3.{gives_back}
use Rattle.stream.specs.Stream.{Token, text}
use Rattle.reader.specs.Reader.{end, stop, GivesOf, Gives}
use Rattle.reader.specs.Cut.{stands, rest_of, Loop, on, to_a_failure, to_the_end, least, most, told_lexeme, cuts_loop}

pub rest_is : (t : List ℕ) (k s : ℕ) (r : List ℕ) → Gives t k s r → drop (length t - length r) t ≡ r
rest_is t k s r g = rest_of t (length t) k s r (read t) (stands t) g

-- what a call gave tells what was read
told_end : (x : Read) (n s : ℕ) (r : List ℕ) → GivesOf x n end s r → (x ≡ finish) × (r ≡ [])
told_end (lexeme κ w u) n s r g = absurd (not-suc-le-zero {n = 0} (omega (arith, least κ, g.0)))
told_end finish n s r g = (refl, g.1.1)
told_end (failure u) n s r g = absurd (not-suc-le-zero {n = 0} (omega (arith, g.0)))

told_stop : (x : Read) (n s : ℕ) (r : List ℕ) → GivesOf x n stop s r → x ≡ failure r
told_stop (lexeme κ w u) n s r g = absurd (not-suc-le-zero {n = 0} (omega (arith, most κ, g.0)))
told_stop finish n s r g = absurd (not-suc-le-zero {n = 0} (omega (arith, g.0)))
told_stop (failure u) n s r g = ap failure (sym g.1.1)

-- ---- "any other text gives its lexemes to the end if nothing fails, else the lexemes before the first failure", and the rest starts there
pub loop_cuts : (t : List ℕ) (ls : List Lexed) (u : List ℕ) → Loop t ls u → Cuts t ls u
loop_cuts t _ u (to_the_end s g) = let h = told_end (read t) (length t) s u g in subst (λ (y : List ℕ). Cuts t [] y) (sym h.1) (ended h.0)
loop_cuts t _ u (to_a_failure s g) = failed (told_stop (read t) (length t) s u g)
loop_cuts t _ u (on {r = r} {ls = ls} s κ g l) = next (told_lexeme κ t s r (read t) (stands t) g) (loop_cuts r ls u l)

-- ---- "Cut from end to end, a readable stream's text gives its spellings", and nothing else
pub readable_loop : (ts : List Token) (ls : List Lexed) → Readable ts ls → Loop (text true ts) ls []
readable_loop ts ls r = cuts_loop (text true ts) ls [] (gives_back ts ls r)

pub loop_once : (t : List ℕ) (ls ms : List Lexed) (u v : List ℕ) → Loop t ls u → Loop t ms v → (ls ≡ ms) × (u ≡ v)
loop_once t ls ms u v l m = cut_once t ls ms u v (loop_cuts t ls u l) (loop_cuts t ms v m)
