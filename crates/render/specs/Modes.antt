-- 02, vii: "Switch off, demand 2 reads as before; on, it holds for what is accepted." Off, in the crate's edition, is 01's definition itself (`Render.Measures`,
-- `Renders`). What is accepted in a mode is accepted with the switch off, with the same length and the same bytes; so a tree that both admit has one text.
use Rattle.std.specs.Prelude.{ℕ, ◌≡◌, refl, List, Ok, Err}
use Rattle.mode.specs.declared.Mode.{Mode}
use Rattle.tree.specs.Check as tree
use Rattle.tree.specs.Check.{Answer}
use Rattle.rules.specs.Whole.{switched_off, off_looser, looser}
use Rattle.render.specs.Render.{Outcome, or_refused, measured, rendered, MeasuresIn, RendersIn}

-- where a length is answered, the check passed
admits : (a : Answer) (other : Outcome) {n : ℕ} → Ok n ≡ or_refused a other → tree.number_of a ≡ 0
admits (Ok u) other e = refl
admits (Err r) other e = absurd (cc)

-- ---- the switch
module _ (mode : Mode) {t x : List ℕ} {n : ℕ} where
  pub measured_off : MeasuresIn mode t x (Ok n) → MeasuresIn (switched_off mode) t x (Ok n)
  unfolding measured
  measured_off m =
      record {
        answer = m.answer;
        checks = looser (switched_off mode) mode (off_looser mode) t x m.answer (admits m.answer _ m.answers) m.checks;
        answers = m.answers;
      }

  pub rendered_off : {out out' : List ℕ} → RendersIn mode t x out (Ok n) out' → RendersIn (switched_off mode) t x out (Ok n) out'
  unfolding rendered
  rendered_off r =
      record {
        answer = r.answer;
        checks = looser (switched_off mode) mode (off_looser mode) t x r.answer (admits r.answer _ r.answers) r.checks;
        answers = r.answers;
        writes = r.writes;
      }
