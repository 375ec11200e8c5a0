-- How what is written is put together, shape by shape.
use Rattle.std.specs.Prelude.{ℕ, ◌≡◌, refl, List, [], ◌∷◌, ◌++◌, length}
use Prim.Native.String.{String}
use Rattle.std.proofs.Common.{◌∙◌}
use Rattle.laws.specs.Text.{ascii}
use Rattle.spelling.specs.Table.{spelling_in}
use Rattle.mode.specs.declared.Edition.{Edition}
use Rattle.mode.specs.declared.Edition.TheVariants.{Crate}
use Rattle.stream.specs.Stream.{Token}
use Rattle.stream.specs.Sink.{State, mark, step}
use Rattle.stream.specs.Laws.{pour_length}
use Rattle.stream.specs.declared.Sink.{Sink}
use Rattle.record.specs.declared.Record.{Record}
use Rattle.record.specs.Laws.{nothing as blank}
use Rattle.grammar.specs.Shape.{Shape, word, said, line, ◌·◌}
use Rattle.tokens.specs.Corners.{bare, valued, id, newline}
use Rattle.tokens.specs.Tokens.{Out, then, means, node}
use Rattle.pen.specs.declared.Pen.{Pen}
use Rattle.pen.specs.Pen.{Lent, source_of, source, source_in, Spot, emit, put, Puts, Says, Writes, Anywhere}

infixr 40 ◌▹◌
emit_more : (w : List ℕ) (st : State) (ts us : List Token) → emit w (emit w st ts) us ≡ emit w st (ts ++ us)
unfolding emit
emit_more w st [] us = refl
emit_more w st (t ∷ ts) us = emit_more w (step st t.kind (spelling_in w t.kind) t.value) ts us

emit_length : (w : List ℕ) (st : State) (ts : List Token) → length (emit w st ts).1 ≡ length st.1
unfolding emit step mark
emit_length w st [] = refl
emit_length w st (t ∷ ts) = emit_length w (step st t.kind (spelling_in w t.kind) t.value) ts ∙ pour_length st _

-- one behind the other
pub puts_then : {w : List ℕ} {o : Out} {a b c : Spot} (f : ℕ → Out) → Puts w o a b → Puts w (f o.next) b c → Puts w (then o f) a c
unfolding put
puts_then {w} {o} {a} {b} {c} f p q =
    record { is = q.is ∙ rw (p.is, emit_more w (a.0.sink, a.1) o.tokens (f o.next).tokens) }

pub puts_length : {w : List ℕ} {o : Out} {a b : Spot} → Puts w o a b → length b.1 ≡ length a.1
unfolding put
puts_length {w} {o} {a} p = rw p.is (emit_length w (a.0.sink, a.1) o.tokens)

pub puts_next : {w : List ℕ} {o : Out} {a b : Spot} → Puts w o a b → b.0.next ≡ o.next
unfolding put
puts_next p = rw p.is

from : {w : List ℕ} {b c : Spot} {j k : ℕ} (f : ℕ → Out) → j ≡ k → Puts w (f j) b c → Puts w (f k) b c
from f e p = rw (← e) p

-- the next begins where the pen is
pub puts_on : {w : List ℕ} {o : Out} {a b c : Spot} (f : ℕ → Out) → Puts w o a b → Puts w (f b.0.next) b c → Puts w (then o f) a c
puts_on f p q = puts_then f p (from f (puts_next p) q)

module _ {e : Lent} {w : List ℕ} {d : ℕ} {r : Record} where
  pub ◌▹◌ : {s t : Shape} {a b c : Spot} → Writes e w d r s a b → Writes e w d r t b c → Writes e w d r (s · t) a c
  unfolding means
  ◌▹◌ {s} {t} p q = record { puts = λ v. puts_on (means (source_of v e) (node (source_of v e) d) r t) (p.puts v) (q.puts v) }

  pub same : {s : Shape} {a b : Spot} → Writes e w d r s a b → length b.1 ≡ length a.1
  same p = puts_length (p.puts Crate)

-- what is promised for every edition is promised for one
pub in_one : {t x w : List ℕ} {d : ℕ} {r : Record} {s : Shape} {a b : Spot} {v : Edition} → Writes (source t x) w d r s a b → Writes (source_in t x v) w d r s a b
in_one {v = v} h = record { puts = λ u. h.puts v }

-- one token
pub appended : {w v : List ℕ} {p : Pen} {o o' : List ℕ} {s : Sink} {t : Token}
    → v ≡ spelling_in w t.kind → (s, o') ≡ step (p.sink, o) t.kind v t.value → Says w (t ∷ []) (p, o) (record { sink = s; next = p.next }, o')
unfolding put emit
appended q h = record { puts = record { is = rw (← q, ← h) } }

-- where the output stayed as it was
pub says_from : {w : List ℕ} {ts : List Token} {p : Pen} {o o' : List ℕ} {b : Spot} → o' ≡ o → Says w ts (p, o') b → Says w ts (p, o) b
says_from e h = rw (← e) h

-- ---- what the first functions write
module _ {e : Lent} {w : List ℕ} {d : ℕ} {r : Record} {a b : Spot} where
  pub a_word : {k : ℕ} → Says w (bare k ∷ []) a b → Writes e w d r (word k) a b
  unfolding means
  a_word p = record { puts = λ v. p.puts }

  pub a_said : {v : List ℕ} (s : String) → v ≡ ascii s → Says w (id v ∷ []) a b → Writes e w d r (said s) a b
  unfolding means
  a_said s h p = record { puts = λ v. rw (← h) p.puts }

  pub a_line : {k : ℕ} → Says w (valued k newline ∷ []) a b → Writes e w d r (line k) a b
  unfolding means
  a_line p = record { puts = λ v. p.puts }

-- a word that is written anywhere is said
pub word_said : {w : List ℕ} {k : ℕ} {a b : Spot} → Anywhere w (word k) a b → Says w (bare k ∷ []) a b
unfolding means
word_said h = record { puts = (h (source [] []) 0 blank).puts Crate }

-- z is skimmed for the index behind it; what f says is written from there, and then z
pub later_puts : {w n o : List ℕ} {p g : Pen} {b c : Spot} (z : Out) (f : ℕ → Out) → Puts w z (p, []) (g, n) → Puts w (f g.next) (record { sink = p.sink; next = g.next }, o) b
    → Puts w z (record { sink = b.0.sink; next = p.next }, b.1) c
    → Puts w (record { tokens = (f z.next).tokens ++ z.tokens; next = (f z.next).next }) (p, o) (record { sink = c.0.sink; next = b.0.next }, c.1)
unfolding put
later_puts {w} {n} {o} {p} {g} {b} {c} z f skim q h =
    let q' : Puts w (f z.next) (record { sink = p.sink; next = g.next }, o) b = from f (puts_next skim) q in
    record { is = rw (h.is, q'.is, emit_more w (p.sink, o) (f z.next).tokens z.tokens) }
