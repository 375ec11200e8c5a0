-- `field::nodes_of` meets its contract: the number of each kind that holds a node is computed, and of all others it is 0.
use Prim.Native.Nat.{ℕ}
use mathlib.Core.Path.{◌≡◌, ap, sym}
use Rattle.laws.specs.Apart.{absent}
use Rattle.grammar.specs.Grammar.{shape}
use Rattle.grammar.specs.Slots.{slots_of}
use Rattle.field.specs.Profile.{takes_node}
use Rattle.field.specs.Nodes.{nodes_at, nodes_of, holders, none_held}
use Rattle.field.proofs.nodes_of.Goals as goal

line : {n k : ℕ} → n ≡ k → nodes_of k ≡ nodes_of n
line e = ap nodes_of (sym e)

pub returns-in_default : goal.returns-in_default
returns-in_default c = none_held c.args.k (absent holders c.args.k c.in_default.in_default-own.rest)

pub returns-in-10 : goal.returns-in-10
unfolding nodes_of nodes_at takes_node shape slots_of
returns-in-10 c = line c.in-10.is

pub returns-in-32 : goal.returns-in-32
unfolding nodes_of nodes_at takes_node shape slots_of
returns-in-32 c = line c.in-32.is

pub returns-in-37 : goal.returns-in-37
unfolding nodes_of nodes_at takes_node shape slots_of
returns-in-37 c = line c.in-37.is

pub returns-in-38 : goal.returns-in-38
unfolding nodes_of nodes_at takes_node shape slots_of
returns-in-38 c = line c.in-38.is

pub returns-in-40 : goal.returns-in-40
unfolding nodes_of nodes_at takes_node shape slots_of
returns-in-40 c = line c.in-40.is

pub returns-in-41 : goal.returns-in-41
unfolding nodes_of nodes_at takes_node shape slots_of
returns-in-41 c = line c.in-41.is

pub returns-in-43 : goal.returns-in-43
unfolding nodes_of nodes_at takes_node shape slots_of
returns-in-43 c = line c.in-43.is

pub returns-in-49 : goal.returns-in-49
unfolding nodes_of nodes_at takes_node shape slots_of
returns-in-49 c = line c.in-49.is

pub returns-in-56 : goal.returns-in-56
unfolding nodes_of nodes_at takes_node shape slots_of
returns-in-56 c = line c.in-56.is

pub returns-in-57 : goal.returns-in-57
unfolding nodes_of nodes_at takes_node shape slots_of
returns-in-57 c = line c.in-57.is

pub returns-in-59 : goal.returns-in-59
unfolding nodes_of nodes_at takes_node shape slots_of
returns-in-59 c = line c.in-59.is

pub returns-in-60 : goal.returns-in-60
unfolding nodes_of nodes_at takes_node shape slots_of
returns-in-60 c = line c.in-60.is

pub returns-in-80 : goal.returns-in-80
unfolding nodes_of nodes_at takes_node shape slots_of
returns-in-80 c = line c.in-80.is

pub returns-in-81 : goal.returns-in-81
unfolding nodes_of nodes_at takes_node shape slots_of
returns-in-81 c = line c.in-81.is

pub returns-in-82 : goal.returns-in-82
unfolding nodes_of nodes_at takes_node shape slots_of
returns-in-82 c = line c.in-82.is

pub returns-in-83 : goal.returns-in-83
unfolding nodes_of nodes_at takes_node shape slots_of
returns-in-83 c = line c.in-83.is

pub returns-in-85 : goal.returns-in-85
unfolding nodes_of nodes_at takes_node shape slots_of
returns-in-85 c = line c.in-85.is

pub returns-in-86 : goal.returns-in-86
unfolding nodes_of nodes_at takes_node shape slots_of
returns-in-86 c = line c.in-86.is

pub returns-in-89 : goal.returns-in-89
unfolding nodes_of nodes_at takes_node shape slots_of
returns-in-89 c = line c.in-89.is

pub returns-in-90 : goal.returns-in-90
unfolding nodes_of nodes_at takes_node shape slots_of
returns-in-90 c = line c.in-90.is

pub returns-in-94 : goal.returns-in-94
unfolding nodes_of nodes_at takes_node shape slots_of
returns-in-94 c = line c.in-94.is

pub returns-in-95 : goal.returns-in-95
unfolding nodes_of nodes_at takes_node shape slots_of
returns-in-95 c = line c.in-95.is

pub returns-in-98 : goal.returns-in-98
unfolding nodes_of nodes_at takes_node shape slots_of
returns-in-98 c = line c.in-98.is

pub returns-in-99 : goal.returns-in-99
unfolding nodes_of nodes_at takes_node shape slots_of
returns-in-99 c = line c.in-99.is

pub returns-in-100 : goal.returns-in-100
unfolding nodes_of nodes_at takes_node shape slots_of
returns-in-100 c = line c.in-100.is

pub returns-in-104 : goal.returns-in-104
unfolding nodes_of nodes_at takes_node shape slots_of
returns-in-104 c = line c.in-104.is

pub returns-in-106 : goal.returns-in-106
unfolding nodes_of nodes_at takes_node shape slots_of
returns-in-106 c = line c.in-106.is

pub returns-in-110 : goal.returns-in-110
unfolding nodes_of nodes_at takes_node shape slots_of
returns-in-110 c = line c.in-110.is

pub returns-in-111 : goal.returns-in-111
unfolding nodes_of nodes_at takes_node shape slots_of
returns-in-111 c = line c.in-111.is

pub returns-in-112 : goal.returns-in-112
unfolding nodes_of nodes_at takes_node shape slots_of
returns-in-112 c = line c.in-112.is

pub returns-in-113 : goal.returns-in-113
unfolding nodes_of nodes_at takes_node shape slots_of
returns-in-113 c = line c.in-113.is

pub returns-in-114 : goal.returns-in-114
unfolding nodes_of nodes_at takes_node shape slots_of
returns-in-114 c = line c.in-114.is

pub returns-in-120 : goal.returns-in-120
unfolding nodes_of nodes_at takes_node shape slots_of
returns-in-120 c = line c.in-120.is
