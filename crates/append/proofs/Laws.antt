-- Laws of append, for the proofs of its functions.
use Rattle.std.specs.Prelude.{ℕ, ◌+◌, ◌-◌, ◌≤◌, ◌≡◌, refl, List, [], ◌∷◌, Bool, Ok, Err, true, false, ltb}
use Rattle.std.proofs.Common.{arith, ◌∙◌, sym}
use Rattle.std.proofs.Math.Path.{ap}
use Rattle.std.proofs.Math.ListN.{length}
use Rattle.std.proofs.Math.Seq.{sets-eq}
use borrow.Author.Tests.{le-ltb, ltb-false}
use Rattle.spelling.specs.Spelling.{spelling}
use Rattle.laws.specs.First.{first}
use Rattle.stream.specs.Stream.{adds, leaves}
use Rattle.stream.specs.Sink.{State, most, pour, mark, step}
use Rattle.stream.specs.Laws.{count_fits}
use Rattle.append.specs.declared.Stream.{Stream}
use Rattle.append.specs.declared.Refusal.TheVariants.{NoRoom}
use Rattle.append.specs.Ends.{token_lines, token_column, token_longer}
use Rattle.append.specs.Append.{number_of, token_of, news, room, record_after, output_after}
use Rattle.append.specs.Steps.{Check, Verdict, Writes, emitted, moved_to, Ready}
use Rattle.append.specs.Laws.{Sound, is_sound, not_fine, passed, none_fits}

-- ---- the bytes behind the count
module _ (rec : Stream) (out : List ℕ) (token : ℕ) (word value : List ℕ) (x : State) (ready : Ready rec out token word value) (held : length out ≤ most)
    (emits : x ≡ emitted rec.spaced rec.count out token word value) where
  sound : Sound rec (length out)
  sound = is_sound rec (length out) ready.sound

  put_state : x ≡ emitted rec.spaced rec.count out token (spelling (number_of token)) value
  put_state = rw ready.spells at emits

  pub put_counts : x.0.at ≡ rec.count + length (news rec token value)
  unfolding emitted step mark pour news adds token_of
  put_counts =
      let fits = ready.fits in
      let within = sound.within in
      ap (λ (s : State). s.0.at) put_state ∙ count_fits rec.count (length (news rec token value)) (omega arith)

  -- what is asked of the record before it is moved on
  pub put_moves : (rec.count ≤ x.0.at) × ((rec.line ≤ rec.count) × ((rec.column ≤ rec.count) × (length value ≤ x.0.at - rec.count)))
  unfolding news
  put_moves = (omega (arith, put_counts), (sound.line, (sound.column, omega (arith, put_counts, token_longer rec.spaced token value ready.lent))))

  left_is : moved_to rec x.0 value ≡ record_after (Ok (length (news rec token value))) rec token value
  unfolding moved_to record_after emitted step mark pour news adds leaves token_of
  left_is =
      let n = length (news rec token value) in
      let d : x.0.at - rec.count ≡ n = omega (arith, put_counts) in
      rw (
        d,
        put_counts,
        ap (λ (s : State). s.0.spaced) put_state,
        token_lines rec.spaced token value ready.lent,
        token_column rec.spaced token value ready.lent rec.column,
      )

  pub put_all : (left : Stream) → left ≡ moved_to rec x.0 value → Writes rec out token value (Ok (x.0.at - rec.count)) left x.1
  unfolding room output_after emitted step mark pour news adds token_of
  put_all left e =
      let new = news rec token value in
      let n : x.0.at - rec.count ≡ length new = omega (arith, put_counts) in
      let fits = ready.fits in
      let within = sound.within in
      record {
        answers = rw (n, le-ltb (length out - rec.count) (length new) fits);
        leave = rw n (e ∙ left_is);
        writes = rw n (ap (λ (s : State). s.1) put_state ∙ sets-eq new out rec.count (omega arith));
      }

pub all_ready : (rec : Stream) (out : List ℕ) (token : ℕ) (word value : List ℕ) (r : Check) → word ≡ spelling (number_of token) → Verdict rec (length out) token value r → r ≡ Ok tt
    → Ready rec out token word value
all_ready rec out token word value r w v e =
    let f = none_fits rec (length out) token value r v e in
    let p = passed rec (length out) token value (Ok tt) f.0 refl in
    record { sound = p.0; spells = w; lent = p.1; fits = by (ltb (length out - rec.count) n) refl f.1 }
  where
    n : ℕ
    n = length (news rec token value)

    by : (b : Bool) → ltb (length out - rec.count) n ≡ b → ◌≡◌ {A = Check} (Ok tt) (first ((b, Err (NoRoom n)) ∷ []) (Ok tt)) → n ≤ length out - rec.count
    by true t q = absurd (not_fine (NoRoom n) (sym q))
    by false t q = ltb-false (length out - rec.count) n t
