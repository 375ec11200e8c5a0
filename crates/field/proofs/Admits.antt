-- 02, xi: "What it admits is rendered in the same bytes as before, and any tree the profile admits the full check admits too, with the same text,
-- edition and switch. Refusals: those of measure in their order first." And what a tree of the profile is: each record keeps to it in its place.
use Rattle.std.specs.Prelude.{ℕ, ◌≡◌, List, [], ◌∷◌}
use Rattle.mode.specs.declared.Mode.{Mode}
use Rattle.record.specs.Record.{count}
use Rattle.grammar.specs.Grammar.{root}
use Rattle.tree.specs.Check.{place}
use Rattle.field.specs.Profile.{Verdict, broken, ProfilesIn, number_of}
use Rattle.field.specs.Admits.{both, Each, Keeps, all_keep}

pub keep_to_it : {m : Mode} {t x : List ℕ} {v : Verdict} → ProfilesIn m t x v → number_of v ≡ 0 → Each (Keeps t) t (count t) 0 (place 1 root ∷ [])
unfolding broken
keep_to_it {t = t} p z = all_keep t (count t) 0 (place 1 root ∷ []) (both p z).1.1
