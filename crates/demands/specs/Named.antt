-- 02, xiii: "take one tree and two texts of equal length, both admitted with it. If they agree on every part that a record of the tree names, the written
-- bytes and the length are the same, in both editions." Of the outcomes of measure and render, and of what crosses; and that neither premise is idle. The
-- texts need not even be of one length.
use Rattle.std.specs.Prelude.{ℕ, zero, suc, ◌+◌, ◌<◌, ◌≡◌, refl, List, [], ◌∷◌, ◌++◌, Bool, true, false, not, cond, length, Ok, Err}
use Rattle.std.proofs.Common.{arith, ◌∙◌, ap, ap₂, sym, leb→le}
use Rattle.std.proofs.lemmas.Bool.{false≢true}
use Rattle.laws.specs.Little.{little}
use Rattle.laws.specs.Text.{ascii}
use Rattle.mode.specs.declared.Edition.TheVariants.{Crate}
use Rattle.mode.specs.declared.Mode.{Mode}
use Rattle.utf8.specs.Rfc3629.{Text, In, one, Encoding, Encoded}
use Rattle.utf8.specs.Scan.{ones, counted, width}
use Rattle.utf8.proofs.Characters.{width_none}
use Rattle.utf8.specs.Laws.{number_broken, text_char, text_first}
use Rattle.utf8.proofs.Laws.{text_rest}
use Rattle.blank.specs.Blank.{blank, all_blank}
use Rattle.spelling.specs.Rows as spellings
use Rattle.spelling.specs.Spelling.{row, spelling}
use Rattle.spelling.specs.Token.{TK_ID}
use Rattle.stream.specs.Stream.{tight, opens, gap, gapped, blob, spelled_bit, written, valued_bit, added, left, adds, leaves, text}
use Rattle.record.specs.Record.{bytes_at, record_at, count}
use Rattle.grammar.specs.Kind.{TOKEN, RUN}
use Rattle.grammar.specs.Grammar.{shape}
use Rattle.grammar.specs.Slots.{allowed}
use Rattle.tokens.specs.Tokens.{behind, token_of, rows, placed, means, node, whole, tokens_of, text_of}
use Rattle.tree.specs.Check.{Answer, Admitted, has_part, malformed, or_broken, answer_in, ChecksIn, number_of}
use Rattle.tree.proofs.Whole as whole
use Rattle.tree.specs.declared.Refusal.TheVariants.{Malformed, Broken}
use Rattle.admitted.specs.Named.{part_of, Agree}
use Rattle.admitted.proofs.Named.{text_same}
use Rattle.render.specs.Render.{Outcome, text_in, measured, rendered, output_after, MeasuresIn, RendersIn}
use Rattle.kinyandoma.specs.Trees as Call

module _ {m : Mode} {t x y : List ℕ} (agree : Agree t x y) (admits : ChecksIn m t x Admitted) (too : ChecksIn m t y Admitted) where
  same : text_in m.edition t x ≡ text_in m.edition t y
  same = text_same m.edition t x y agree

  answers : (a b : Answer) → ChecksIn m t x a → ChecksIn m t y b → a ≡ b
  answers a b p q = whole.unique m t x a Admitted p admits ∙ sym (whole.unique m t y b Admitted q too)

  pub measured_alike : {o p : Outcome} → MeasuresIn m t x o → MeasuresIn m t y p → o ≡ p
  measured_alike f g = f.answers ∙ ap₂ measured (answers f.answer g.answer f.checks g.checks) same ∙ sym g.answers

  -- the outcome, and every byte of the output
  pub rendered_alike : {out out₁ out₂ : List ℕ} {o p : Outcome} → RendersIn m t x out o out₁ → RendersIn m t y out p out₂ → (o ≡ p) × (out₁ ≡ out₂)
  rendered_alike {out} {o = o} {p} f g =
      let e : o ≡ p = f.answers ∙ ap₂ (λ (a : Answer) (v : List ℕ). rendered a (length out) v) (answers f.answer g.answer f.checks g.checks) same ∙ sym g.answers in
      (e, f.writes ∙ ap₂ (λ (u : Outcome) (v : List ℕ). output_after u v out) e same ∙ sym g.writes)

  -- and of the calls
  pub measure_alike : {a b : ℕ} → Call.MeasuresIn m t x a → Call.MeasuresIn m t y b → a ≡ b
  measure_alike f g = f.answers ∙ ap Call.code (measured_alike f.measures g.measures) ∙ sym g.answers

  pub render_alike : {out out₁ out₂ : List ℕ} {a b : ℕ} → Call.RendersIn m t x out a out₁ → Call.RendersIn m t y out b out₂ → (a ≡ b) × (out₁ ≡ out₂)
  render_alike f g =
      let u = rendered_alike f.renders g.renders in
      (f.answers ∙ ap Call.code u.0 ∙ sym g.answers, u.1)

-- ---- that the premises are needed: a RUN of one TOKEN, whose value is the first byte of the text
abbrev rec : ℕ → ℕ → ℕ → ℕ → ℕ → List ℕ
rec kind flags kids start len = 0x53 ∷ 0x4E ∷ little 2 kind ++ little 2 flags ++ little 2 kids ++ little 4 start ++ little 4 len

abbrev one_token : List ℕ
one_token = rec RUN 0 1 0 0 ++ rec TOKEN (0x8000 + TK_ID) 0 0 1

-- a byte that is named shows
pub named_shows : (text_in Crate one_token (ascii "a") ≡ ascii "a") × (text_in Crate one_token (ascii "b") ≡ ascii "b")
unfolding text_of tokens_of whole node means placed rows behind token_of allowed shape record_at bytes_at text adds leaves added left gap gapped tight opens blob spelled_bit written valued_bit all_blank blank spelling row spellings.rows
named_shows = (refl, refl)

-- the second byte is named by no record: the two texts agree
pub unnamed_agree : Agree one_token (ascii "a!") (0x61 ∷ 0xFF ∷ [])
unfolding has_part record_at bytes_at
unnamed_agree = record { parts = λ j l h. by j l h }
  where
    by : (j : ℕ) → j < count one_token → has_part (record_at one_token j) ≡ true → part_of (ascii "a!") (record_at one_token j) ≡ part_of (0x61 ∷ 0xFF ∷ []) (record_at one_token j)
    by zero l h = absurd (false≢true h)
    by (suc zero) l h = refl
    by (suc (suc j)) l h = absurd (omega arith)

-- but FF is in no text, so the second is refused, and nothing is claimed
no_text : Text (0x61 ∷ 0xFF ∷ []) → ⊥
unfolding width counted ones
no_text t =
    let a : In 0x00 0x7F 0x61 = record { low = leb→le 0x00 0x61 tt; high = leb→le 0x61 0x7F tt } in
    text_first (text_rest (text_char (one a)) (0xFF ∷ []) t) (width_none (0xFF ∷ []) refl) (omega arith)

pub refused_all_the_same : (m : Mode) (t : List ℕ) (a : Answer) → ChecksIn m t (0x61 ∷ 0xFF ∷ []) a → number_of a ≡ 0 → ⊥
unfolding answer_in
refused_all_the_same m t a c z = by (malformed t) c.encoding _ c.encoded (sym (ap number_of c.answers) ∙ z)
  where
    by : (f : Bool) (e : Encoding) (s : Answer) → Encoded (0x61 ∷ 0xFF ∷ []) e → number_of (cond f (Err Malformed) (or_broken e s)) ≡ 0 → ⊥
    by true e s k h = omega arith
    by false (Ok u) s k h = no_text k
    by false (Err b) s k h = number_broken b h
