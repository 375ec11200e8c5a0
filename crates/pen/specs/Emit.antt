-- Tokens that are written one after the other are their text: with the spelling table, and where the count begins at 0.
use Rattle.std.specs.Prelude.{ℕ, ◌≤◌, ◌≡◌, List, [], ◌∷◌, true, length}
use Rattle.std.proofs.Common.{arith, ◌∙◌, sym}
use Rattle.std.proofs.Math.Path.{ap}
use Rattle.std.proofs.lemmas.List.Edits.{sets}
use Rattle.spelling.specs.Table.{bytes, spelling_in}
use Rattle.spelling.specs.Laws.{spells}
use Rattle.stream.specs.Stream.{Token, adds, leaves, text, bit}
use Rattle.stream.specs.Sink.{State, most, count, pour, mark, step}
use Rattle.stream.specs.Laws.{pour_none, pour_length, count_within, then}
use Rattle.stream.specs.declared.Sink.{Sink}
use Rattle.tokens.specs.Tokens.{Source, tokens_of, text_of}
use Rattle.pen.specs.Pen.{emit}

-- one token, spelled by the table
one_token : (w : List ℕ) (st : State) (t : Token) → w ≡ bytes
    → step st t.kind (spelling_in w t.kind) t.value ≡ mark (pour st (adds st.0.spaced t)) (leaves st.0.spaced t)
unfolding step adds leaves
one_token w st t e = rw (e, spells t.kind)

pub emit_text : (w : List ℕ) (st : State) (ts : List Token) → w ≡ bytes → length st.1 ≤ most → st.0.at ≤ most
    → emit w st ts ≡ mark (pour st (text st.0.spaced ts)) (bit st.0.spaced ts)
unfolding emit text bit mark pour
emit_text w st [] e h l = sym (pour_none st l)
emit_text w st (t ∷ ts) e h l =
    let b = st.0.spaced in
    let st' = mark (pour st (adds b t)) (leaves b t) in
    let rest = text (leaves b t) ts in
    ap (λ (s : State). emit w s ts) (one_token w st t e)
    ∙ emit_text w st' ts e (rw (pour_length st (adds b t)) h) (count_within st.0.at (length (adds b t)))
    ∙ ap (λ (s : State). mark s (bit (leaves b t) ts)) (then st (adds b t) rest (leaves b t) h)

-- the sink as it is at the start
abbrev pub fresh : Sink
fresh = record { spaced = true; at = 0 }

-- the text of a tree is stored from 0 on, and counted
module _ (w out : List ℕ) (e : Source) (pool : w ≡ bytes) (room : length out ≤ most) where
  pub text_counted : (emit w (fresh, out) (tokens_of e)).0.at ≡ count 0 (length (text_of e))
  unfolding text_of mark pour
  text_counted = ap (λ (s : State). s.0.at) (emit_text w (fresh, out) (tokens_of e) pool room (omega arith))

  pub text_stored : (emit w (fresh, out) (tokens_of e)).1 ≡ sets out 0 (text_of e)
  unfolding text_of mark pour
  text_stored = ap (λ (s : State). s.1) (emit_text w (fresh, out) (tokens_of e) pool room (omega arith))
