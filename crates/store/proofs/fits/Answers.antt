-- `store::fits` meets its contract: both ways it is linear arithmetic.
use native.Mathlib.Omega.{arith}
use borrow.Author.Tests.{leb-true, le-leb}
use Rattle.store.proofs.fits.Goals as goal

pub returns : goal.returns
returns c = (λ e. omega (arith, c.saturating_sub.ensures, leb-true, e), λ h. omega (arith, c.saturating_sub.ensures, le-leb))
