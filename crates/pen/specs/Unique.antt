-- The contracts of the renderers leave no choice: no two outcomes satisfy one.
use Rattle.std.specs.Prelude.{ℕ, ◌≡◌, refl, List, [], Bool, false}
use Rattle.std.proofs.Common.{◌∙◌, sym, ap}
use Rattle.mode.specs.declared.Edition.TheVariants.{Crate}
use Rattle.stream.specs.Stream.{Token}
use Rattle.stream.specs.declared.Sink.{Sink}
use Rattle.record.specs.declared.Record.{Record}
use Rattle.record.specs.Laws.{nothing as blank}
use Rattle.grammar.specs.Shape.{Shape}
use Rattle.tokens.specs.Tokens.{Out}
use Rattle.pen.specs.declared.Pen.{Pen}
use Rattle.pen.specs.Pen.{Lent, source, Spot, Past, Puts, Says, Writes, Anywhere, Always, Below, Flag, Under}
use Rattle.pen.specs.Flags.{bits, first_bit}

module _ {w : List ℕ} {a b c : Spot} where
  pub puts_unique : {o : Out} → Puts w o a b → Puts w o a c → b ≡ c
  puts_unique p q = p.is ∙ sym q.is

  pub says_unique : {ts : List Token} → Says w ts a b → Says w ts a c → b ≡ c
  says_unique p q = puts_unique p.puts q.puts

  pub writes_unique : {e : Lent} {d : ℕ} {r : Record} {s : Shape} → Writes e w d r s a b → Writes e w d r s a c → b ≡ c
  writes_unique p q = puts_unique (p.puts Crate) (q.puts Crate)

module _ (w : List ℕ) (a b c : Spot) where
  pub anywhere_unique : (s : Shape) → Anywhere w s a b → Anywhere w s a c → b ≡ c
  anywhere_unique s p q = writes_unique (p (source [] []) 0 blank) (q (source [] []) 0 blank)

  pub always_unique : (e : Lent) (s : Shape) → Always e w s a b → Always e w s a c → b ≡ c
  always_unique e s p q = writes_unique (p 0 blank) (q 0 blank)

  pub below_unique : (e : Lent) (d : ℕ) (s : Shape) → Below e w d s a b → Below e w d s a c → b ≡ c
  below_unique e d s p q = writes_unique (p blank) (q blank)

  -- for any bit there is a record that has it or not
  pub under_unique : (on : Bool) (s : ℕ → Shape) → Under on s w a b → Under on s w a c → b ≡ c
  under_unique on s p q =
      writes_unique (p (source [] []) 0 (bits on false false) 0 (first_bit on false false)) (q (source [] []) 0 (bits on false false) 0 (first_bit on false false))

pub flag_unique : (bit flags : ℕ) (x y : Bool) → Flag bit flags x → Flag bit flags y → x ≡ y
flag_unique bit flags x y p q =
    let r : Record = record { mark = 0; kind = 0; flags = flags; kids = 0; start = 0; len = 0 } in p r refl ∙ sym (q r refl)

abbrev pen_of : Sink → ℕ → Pen
pen_of k n = record { sink = k; next = n }

pub past_unique : (t : List ℕ) (p q s : Pen) → Past t p q → Past t p s → q ≡ s
past_unique t p q s x y =
    ap (λ (k : Sink). pen_of k q.next) (x.sink ∙ sym y.sink) ∙ ap (λ (n : ℕ). pen_of s.sink n) (x.next ∙ sym y.next)
