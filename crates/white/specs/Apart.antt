-- The parts are the longest runs of bytes that belong to no White_Space character: a byte is in a part where its mark is false, no part is empty, and between two parts stands a byte at least. None reaches past the end of the text.
use Rattle.std.specs.Prelude.{ℕ, zero, suc, ◌+◌, ◌-◌, ◌≤◌, ◌<◌, ◌≡◌, refl, List, [], ◌∷◌, ◌++◌, Bool, true, false, not, ◌||◌, ◌&&◌, leb, ltb, length, get_or}
use Rattle.std.proofs.Common.{arith, not-suc-le-zero, le_of_suc-le-suc, ◌∙◌, ap, le-leb, lt-ltb, le-ltb, leb-true}
use Rattle.std.proofs.lemmas.Bool.{lt-leb}
use Rattle.laws.specs.Tests.{and_parts}
use Rattle.white.specs.Parts.{Span, span, marks, closed, runs, parts}

-- whether place k lies in one of the spans
abbrev pub in_some : ℕ → List Span → Bool
in_some k [] = false
in_some k (p ∷ ps) = (leb p.start k && ltb k (p.start + p.len)) || in_some k ps

-- whether the spans stand from place i on, in order, none empty, each a byte or more behind the one before
abbrev pub in_order : ℕ → List Span → Bool
in_order i [] = true
in_order i (p ∷ ps) = leb i p.start && (ltb 0 p.len && in_order (p.start + p.len + 1) ps)

earlier : (ps : List Span) (i j : ℕ) → i ≤ j → in_order j ps ≡ true → in_order i ps ≡ true
earlier [] i j h o = refl
earlier (p ∷ ps) i j h o =
    let b = and_parts (leb j p.start) (ltb 0 p.len && in_order (p.start + p.len + 1) ps) o in
    let l = leb-true j p.start b.0 in
    rw (le-leb i p.start (omega arith)) b.1

order_runs : (ms : List Bool) (i n : ℕ) → n ≤ i → in_order (i - n) (runs i n ms) ≡ true
unfolding runs
order_runs [] i zero h = refl
order_runs [] i (suc n) h = rw (le-leb (i - suc n) (i - suc n) (omega arith), lt-ltb 0 (suc n) (omega arith))
order_runs (true ∷ ms) i zero h = earlier (runs (i + 1) 0 ms) (i - 0) (i + 1 - 0) (omega arith) (order_runs ms (i + 1) 0 (omega arith))
order_runs (true ∷ ms) i (suc n) h =
    let e : i - suc n + suc n + 1 ≡ i + 1 - 0 = omega arith in
    rw (le-leb (i - suc n) (i - suc n) (omega arith), lt-ltb 0 (suc n) (omega arith), e) (order_runs ms (i + 1) 0 (omega arith))
order_runs (false ∷ ms) i n h = let e : i - n ≡ i + 1 - (n + 1) = omega arith in rw e (order_runs ms (i + 1) (n + 1) (omega arith))

pub in_order_lem : (s : List ℕ) → in_order 0 (parts s) ≡ true
unfolding parts
in_order_lem s = order_runs (marks 0 s) 0 0 (omega arith)

-- no place before the first of them is in one
before_all : (ps : List Span) (i k : ℕ) → in_order i ps ≡ true → k < i → in_some k ps ≡ false
before_all [] i k o h = refl
before_all (p ∷ ps) i k o h =
    let b = and_parts (leb i p.start) (ltb 0 p.len && in_order (p.start + p.len + 1) ps) o in
    let l = leb-true i p.start b.0 in
    let q = and_parts (ltb 0 p.len) (in_order (p.start + p.len + 1) ps) b.1 in
    rw (lt-leb p.start k (omega arith)) (before_all ps (p.start + p.len + 1) k q.1 (omega arith))

-- a place of the part that is still open is in it
in_open : (ms : List Bool) (i n k : ℕ) → n ≤ i → i ≤ k + n → k < i → in_some k (runs i n ms) ≡ true
unfolding runs
in_open [] i zero k h a b = let no : ⊥ = omega arith in absurd no
in_open [] i (suc n) k h a b = rw (le-leb (i - suc n) k (omega arith), lt-ltb k (i - suc n + suc n) (omega arith))
in_open (true ∷ ms) i zero k h a b = let no : ⊥ = omega arith in absurd no
in_open (true ∷ ms) i (suc n) k h a b = rw (le-leb (i - suc n) k (omega arith), lt-ltb k (i - suc n + suc n) (omega arith))
in_open (false ∷ ms) i n k h a b = in_open ms (i + 1) (n + 1) k (omega arith) (omega arith) (omega arith)

-- behind the open part, what is closed there says nothing
past_closed : (i n k : ℕ) (ps : List Span) → n ≤ i → i ≤ k → in_some k (closed i n ++ ps) ≡ in_some k ps
past_closed i zero k ps h a = refl
past_closed i (suc n) k ps h a = rw (le-leb (i - suc n) k (omega arith), le-ltb k (i - suc n + suc n) (omega arith))

by_mark : (ms : List Bool) (i n j : ℕ) → n ≤ i → j < length ms → in_some (i + j) (runs i n ms) ≡ not (get_or ms j true)
unfolding runs
by_mark [] i n j h l = absurd (not-suc-le-zero l)
by_mark (true ∷ ms) i n zero h l =
    past_closed i n (i + 0) (runs (i + 1) 0 ms) h (omega arith)
    ∙ before_all (runs (i + 1) 0 ms) (i + 1 - 0) (i + 0) (order_runs ms (i + 1) 0 (omega arith)) (omega arith)
by_mark (true ∷ ms) i n (suc j) h l =
    let e : i + suc j ≡ i + 1 + j = omega arith in
    past_closed i n (i + suc j) (runs (i + 1) 0 ms) h (omega arith)
    ∙ rw e (by_mark ms (i + 1) 0 j (omega arith) (le_of_suc-le-suc l))
by_mark (false ∷ ms) i n zero h l = in_open ms (i + 1) (n + 1) (i + 0) (omega arith) (omega arith) (omega arith)
by_mark (false ∷ ms) i n (suc j) h l =
    let e : i + suc j ≡ i + 1 + j = omega arith in
    rw e (by_mark ms (i + 1) (n + 1) j (omega arith) (le_of_suc-le-suc l))

marks_length : (s : List ℕ) (k : ℕ) → length (marks k s) ≡ length s
unfolding marks
marks_length [] k = refl
marks_length (b ∷ s) zero = ap suc (marks_length s _)
marks_length (b ∷ s) (suc k) = ap suc (marks_length s k)

pub in_part : (s : List ℕ) (k : ℕ) → k < length s → in_some k (parts s) ≡ not (get_or (marks 0 s) k true)
unfolding parts
in_part s k h =
    let e : 0 + k ≡ k = omega arith in
    rw e at (by_mark (marks 0 s) 0 0 k (omega arith) (omega (arith, marks_length s 0)))

-- the part at place k of the list, 0 and 0 where there is none, ends within the text
ends_runs : (ms : List Bool) (i n k : ℕ) → n ≤ i → (get_or (runs i n ms) k (span 0 0)).start + (get_or (runs i n ms) k (span 0 0)).len ≤ i + length ms
unfolding runs
ends_runs [] i zero k h = omega arith
ends_runs [] i (suc n) zero h = omega arith
ends_runs [] i (suc n) (suc k) h = omega arith
ends_runs (true ∷ ms) i zero k h = omega (arith, ends_runs ms (i + 1) 0 k (omega arith))
ends_runs (true ∷ ms) i (suc n) zero h = omega arith
ends_runs (true ∷ ms) i (suc n) (suc k) h = omega (arith, ends_runs ms (i + 1) 0 k (omega arith))
ends_runs (false ∷ ms) i n k h = omega (arith, ends_runs ms (i + 1) (n + 1) k (omega arith))

pub within : (s : List ℕ) (k : ℕ) → (get_or (parts s) k (span 0 0)).start + (get_or (parts s) k (span 0 0)).len ≤ length s
unfolding parts
within s k = omega (arith, ends_runs (marks 0 s) 0 0 k (omega arith), marks_length s 0)
