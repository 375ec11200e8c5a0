-- `kinyandoma::profiles::kinyandoma_profile` meets its contract: a length fits the place of an answer, and so does a record.
use native.Mathlib.Omega.{arith}
use Rattle.field.proofs.Laws.{profiles_small}
use borrow.Author.Rules.{rules}
use Rattle.kinyandoma.proofs.profiles.kinyandoma_profile.Goals as goal

pub code-requires : goal.code-requires
code-requires c = profiles_small (λ k. omega (arith, c.shared_slice_known-1.given k)) c.profile.ensures

pub returns : goal.returns
returns c =
    let at-profile = c.profile in
    let at_of = c.of in
    record { verdict = at-profile.result; profiles = rw at_of.ensures at at-profile.ensures; answers = c.code.ensures }
