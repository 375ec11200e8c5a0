-- `render::render` meets its contract: the text is rendered by what the check answers.
use Rattle.render.proofs.render.Goals as goal

pub render_checked-requires : goal.render_checked-requires
render_checked-requires c = (c.pool-pool.ensures, c.check.ensures)

pub returns : goal.returns
returns c = c.render_checked.ensures
