-- A byte more of a value with each quote in it doubled, and a quote that is poured twice.
use Rattle.std.specs.Prelude.{ℕ, ◌+◌, ◌≤◌, ◌<◌, ◌≡◌, List, [], ◌∷◌, ◌++◌, length, take, get_or}
use Rattle.std.proofs.Common.{add-one, take-suc}
use Rattle.stream.specs.Sink.{State, most, pour, doubled}
use Rattle.stream.specs.Laws.{pour_more}
use Rattle.stream.specs.Doubled.{doubled_append, doubled_quote}

-- a byte more
pub doubled_more : (s : List ℕ) (i : ℕ) → i < length s → doubled (take (i + 1) s) ≡ doubled (take i s) ++ doubled (get_or s i 0 ∷ [])
doubled_more s i h = rw (add-one i, take-suc s i 0) (doubled_append (take i s) (get_or s i 0 ∷ []))

pub quote_twice : (st t u : State) (b : ℕ) → length st.1 ≤ most → b ≡ 0x27 → t ≡ pour st (b ∷ []) → u ≡ pour t (b ∷ []) → u ≡ pour st (doubled (b ∷ []))
quote_twice st t u b h e p q = rw (q, p, doubled_quote b e) (pour_more st (b ∷ []) (b ∷ []) h)

pub next_poured : (st t u : State) (v : List ℕ) (i : ℕ) → length st.1 ≤ most → i < length v
    → t ≡ pour st (doubled (take i v)) → u ≡ pour t (doubled (get_or v i 0 ∷ [])) → u ≡ pour st (doubled (take (i + 1) v))
next_poured st t u v i h l p q = rw (q, p, doubled_more v i l) (pour_more st (doubled (take i v)) (doubled (get_or v i 0 ∷ [])) h)
