-- `grammar::rule_held` meets its contract: the number of each kind is computed, and there is no other kind.
use Prim.Native.Nat.{ℕ}
use native.Mathlib.Omega.{arith}
use mathlib.Core.Path.{◌≡◌, ap, sym}
use Rattle.laws.specs.Apart.{apart}
use Rattle.grammar.specs.Grammar.{shape}
use Rattle.grammar.specs.Slots.{slots_of, flags_below}
use Rattle.grammar.specs.Packed.{kinds_held, rule_of}
use Rattle.grammar.proofs.rule_held.Goals as goal

line : {n k : ℕ} → n ≡ k → rule_of k ≡ rule_of n
line e = ap rule_of (sym e)

pub returns-in_default : goal.returns-in_default
returns-in_default c = absurd (omega (arith, apart kinds_held c.args.kind c.in_default.in_default-own.rest))

pub returns-in-0 : goal.returns-in-0
unfolding rule_of shape slots_of flags_below
returns-in-0 c = line c.in-0.is

pub returns-in-1 : goal.returns-in-1
unfolding rule_of shape slots_of flags_below
returns-in-1 c = line c.in-1.is

pub returns-in-2 : goal.returns-in-2
unfolding rule_of shape slots_of flags_below
returns-in-2 c = line c.in-2.is

pub returns-in-3 : goal.returns-in-3
unfolding rule_of shape slots_of flags_below
returns-in-3 c = line c.in-3.is

pub returns-in-4 : goal.returns-in-4
unfolding rule_of shape slots_of flags_below
returns-in-4 c = line c.in-4.is

pub returns-in-5 : goal.returns-in-5
unfolding rule_of shape slots_of flags_below
returns-in-5 c = line c.in-5.is

pub returns-in-6 : goal.returns-in-6
unfolding rule_of shape slots_of flags_below
returns-in-6 c = line c.in-6.is

pub returns-in-7 : goal.returns-in-7
unfolding rule_of shape slots_of flags_below
returns-in-7 c = line c.in-7.is

pub returns-in-8 : goal.returns-in-8
unfolding rule_of shape slots_of flags_below
returns-in-8 c = line c.in-8.is

pub returns-in-9 : goal.returns-in-9
unfolding rule_of shape slots_of flags_below
returns-in-9 c = line c.in-9.is

pub returns-in-10 : goal.returns-in-10
unfolding rule_of shape slots_of flags_below
returns-in-10 c = line c.in-10.is

pub returns-in-11 : goal.returns-in-11
unfolding rule_of shape slots_of flags_below
returns-in-11 c = line c.in-11.is

pub returns-in-12 : goal.returns-in-12
unfolding rule_of shape slots_of flags_below
returns-in-12 c = line c.in-12.is

pub returns-in-13 : goal.returns-in-13
unfolding rule_of shape slots_of flags_below
returns-in-13 c = line c.in-13.is

pub returns-in-14 : goal.returns-in-14
unfolding rule_of shape slots_of flags_below
returns-in-14 c = line c.in-14.is

pub returns-in-15 : goal.returns-in-15
unfolding rule_of shape slots_of flags_below
returns-in-15 c = line c.in-15.is

pub returns-in-16 : goal.returns-in-16
unfolding rule_of shape slots_of flags_below
returns-in-16 c = line c.in-16.is

pub returns-in-17 : goal.returns-in-17
unfolding rule_of shape slots_of flags_below
returns-in-17 c = line c.in-17.is

pub returns-in-18 : goal.returns-in-18
unfolding rule_of shape slots_of flags_below
returns-in-18 c = line c.in-18.is

pub returns-in-19 : goal.returns-in-19
unfolding rule_of shape slots_of flags_below
returns-in-19 c = line c.in-19.is

pub returns-in-20 : goal.returns-in-20
unfolding rule_of shape slots_of flags_below
returns-in-20 c = line c.in-20.is

pub returns-in-21 : goal.returns-in-21
unfolding rule_of shape slots_of flags_below
returns-in-21 c = line c.in-21.is

pub returns-in-22 : goal.returns-in-22
unfolding rule_of shape slots_of flags_below
returns-in-22 c = line c.in-22.is

pub returns-in-23 : goal.returns-in-23
unfolding rule_of shape slots_of flags_below
returns-in-23 c = line c.in-23.is

pub returns-in-24 : goal.returns-in-24
unfolding rule_of shape slots_of flags_below
returns-in-24 c = line c.in-24.is

pub returns-in-25 : goal.returns-in-25
unfolding rule_of shape slots_of flags_below
returns-in-25 c = line c.in-25.is

pub returns-in-26 : goal.returns-in-26
unfolding rule_of shape slots_of flags_below
returns-in-26 c = line c.in-26.is

pub returns-in-27 : goal.returns-in-27
unfolding rule_of shape slots_of flags_below
returns-in-27 c = line c.in-27.is

pub returns-in-28 : goal.returns-in-28
unfolding rule_of shape slots_of flags_below
returns-in-28 c = line c.in-28.is

pub returns-in-29 : goal.returns-in-29
unfolding rule_of shape slots_of flags_below
returns-in-29 c = line c.in-29.is

pub returns-in-30 : goal.returns-in-30
unfolding rule_of shape slots_of flags_below
returns-in-30 c = line c.in-30.is

pub returns-in-31 : goal.returns-in-31
unfolding rule_of shape slots_of flags_below
returns-in-31 c = line c.in-31.is

pub returns-in-32 : goal.returns-in-32
unfolding rule_of shape slots_of flags_below
returns-in-32 c = line c.in-32.is

pub returns-in-33 : goal.returns-in-33
unfolding rule_of shape slots_of flags_below
returns-in-33 c = line c.in-33.is

pub returns-in-34 : goal.returns-in-34
unfolding rule_of shape slots_of flags_below
returns-in-34 c = line c.in-34.is

pub returns-in-35 : goal.returns-in-35
unfolding rule_of shape slots_of flags_below
returns-in-35 c = line c.in-35.is

pub returns-in-36 : goal.returns-in-36
unfolding rule_of shape slots_of flags_below
returns-in-36 c = line c.in-36.is

pub returns-in-37 : goal.returns-in-37
unfolding rule_of shape slots_of flags_below
returns-in-37 c = line c.in-37.is

pub returns-in-38 : goal.returns-in-38
unfolding rule_of shape slots_of flags_below
returns-in-38 c = line c.in-38.is

pub returns-in-39 : goal.returns-in-39
unfolding rule_of shape slots_of flags_below
returns-in-39 c = line c.in-39.is

pub returns-in-40 : goal.returns-in-40
unfolding rule_of shape slots_of flags_below
returns-in-40 c = line c.in-40.is

pub returns-in-41 : goal.returns-in-41
unfolding rule_of shape slots_of flags_below
returns-in-41 c = line c.in-41.is

pub returns-in-42 : goal.returns-in-42
unfolding rule_of shape slots_of flags_below
returns-in-42 c = line c.in-42.is

pub returns-in-43 : goal.returns-in-43
unfolding rule_of shape slots_of flags_below
returns-in-43 c = line c.in-43.is

pub returns-in-44 : goal.returns-in-44
unfolding rule_of shape slots_of flags_below
returns-in-44 c = line c.in-44.is

pub returns-in-45 : goal.returns-in-45
unfolding rule_of shape slots_of flags_below
returns-in-45 c = line c.in-45.is

pub returns-in-46 : goal.returns-in-46
unfolding rule_of shape slots_of flags_below
returns-in-46 c = line c.in-46.is

pub returns-in-47 : goal.returns-in-47
unfolding rule_of shape slots_of flags_below
returns-in-47 c = line c.in-47.is

pub returns-in-48 : goal.returns-in-48
unfolding rule_of shape slots_of flags_below
returns-in-48 c = line c.in-48.is

pub returns-in-49 : goal.returns-in-49
unfolding rule_of shape slots_of flags_below
returns-in-49 c = line c.in-49.is

pub returns-in-50 : goal.returns-in-50
unfolding rule_of shape slots_of flags_below
returns-in-50 c = line c.in-50.is

pub returns-in-51 : goal.returns-in-51
unfolding rule_of shape slots_of flags_below
returns-in-51 c = line c.in-51.is

pub returns-in-52 : goal.returns-in-52
unfolding rule_of shape slots_of flags_below
returns-in-52 c = line c.in-52.is

pub returns-in-53 : goal.returns-in-53
unfolding rule_of shape slots_of flags_below
returns-in-53 c = line c.in-53.is

pub returns-in-54 : goal.returns-in-54
unfolding rule_of shape slots_of flags_below
returns-in-54 c = line c.in-54.is

pub returns-in-55 : goal.returns-in-55
unfolding rule_of shape slots_of flags_below
returns-in-55 c = line c.in-55.is

pub returns-in-56 : goal.returns-in-56
unfolding rule_of shape slots_of flags_below
returns-in-56 c = line c.in-56.is

pub returns-in-57 : goal.returns-in-57
unfolding rule_of shape slots_of flags_below
returns-in-57 c = line c.in-57.is

pub returns-in-58 : goal.returns-in-58
unfolding rule_of shape slots_of flags_below
returns-in-58 c = line c.in-58.is

pub returns-in-59 : goal.returns-in-59
unfolding rule_of shape slots_of flags_below
returns-in-59 c = line c.in-59.is

pub returns-in-60 : goal.returns-in-60
unfolding rule_of shape slots_of flags_below
returns-in-60 c = line c.in-60.is

pub returns-in-61 : goal.returns-in-61
unfolding rule_of shape slots_of flags_below
returns-in-61 c = line c.in-61.is

pub returns-in-62 : goal.returns-in-62
unfolding rule_of shape slots_of flags_below
returns-in-62 c = line c.in-62.is

pub returns-in-63 : goal.returns-in-63
unfolding rule_of shape slots_of flags_below
returns-in-63 c = line c.in-63.is

pub returns-in-64 : goal.returns-in-64
unfolding rule_of shape slots_of flags_below
returns-in-64 c = line c.in-64.is

pub returns-in-65 : goal.returns-in-65
unfolding rule_of shape slots_of flags_below
returns-in-65 c = line c.in-65.is

pub returns-in-66 : goal.returns-in-66
unfolding rule_of shape slots_of flags_below
returns-in-66 c = line c.in-66.is

pub returns-in-67 : goal.returns-in-67
unfolding rule_of shape slots_of flags_below
returns-in-67 c = line c.in-67.is

pub returns-in-68 : goal.returns-in-68
unfolding rule_of shape slots_of flags_below
returns-in-68 c = line c.in-68.is

pub returns-in-69 : goal.returns-in-69
unfolding rule_of shape slots_of flags_below
returns-in-69 c = line c.in-69.is

pub returns-in-70 : goal.returns-in-70
unfolding rule_of shape slots_of flags_below
returns-in-70 c = line c.in-70.is

pub returns-in-71 : goal.returns-in-71
unfolding rule_of shape slots_of flags_below
returns-in-71 c = line c.in-71.is

pub returns-in-72 : goal.returns-in-72
unfolding rule_of shape slots_of flags_below
returns-in-72 c = line c.in-72.is

pub returns-in-73 : goal.returns-in-73
unfolding rule_of shape slots_of flags_below
returns-in-73 c = line c.in-73.is

pub returns-in-74 : goal.returns-in-74
unfolding rule_of shape slots_of flags_below
returns-in-74 c = line c.in-74.is

pub returns-in-75 : goal.returns-in-75
unfolding rule_of shape slots_of flags_below
returns-in-75 c = line c.in-75.is

pub returns-in-76 : goal.returns-in-76
unfolding rule_of shape slots_of flags_below
returns-in-76 c = line c.in-76.is

pub returns-in-77 : goal.returns-in-77
unfolding rule_of shape slots_of flags_below
returns-in-77 c = line c.in-77.is

pub returns-in-78 : goal.returns-in-78
unfolding rule_of shape slots_of flags_below
returns-in-78 c = line c.in-78.is

pub returns-in-79 : goal.returns-in-79
unfolding rule_of shape slots_of flags_below
returns-in-79 c = line c.in-79.is

pub returns-in-80 : goal.returns-in-80
unfolding rule_of shape slots_of flags_below
returns-in-80 c = line c.in-80.is

pub returns-in-81 : goal.returns-in-81
unfolding rule_of shape slots_of flags_below
returns-in-81 c = line c.in-81.is

pub returns-in-82 : goal.returns-in-82
unfolding rule_of shape slots_of flags_below
returns-in-82 c = line c.in-82.is

pub returns-in-83 : goal.returns-in-83
unfolding rule_of shape slots_of flags_below
returns-in-83 c = line c.in-83.is

pub returns-in-84 : goal.returns-in-84
unfolding rule_of shape slots_of flags_below
returns-in-84 c = line c.in-84.is

pub returns-in-85 : goal.returns-in-85
unfolding rule_of shape slots_of flags_below
returns-in-85 c = line c.in-85.is

pub returns-in-86 : goal.returns-in-86
unfolding rule_of shape slots_of flags_below
returns-in-86 c = line c.in-86.is

pub returns-in-87 : goal.returns-in-87
unfolding rule_of shape slots_of flags_below
returns-in-87 c = line c.in-87.is

pub returns-in-88 : goal.returns-in-88
unfolding rule_of shape slots_of flags_below
returns-in-88 c = line c.in-88.is

pub returns-in-89 : goal.returns-in-89
unfolding rule_of shape slots_of flags_below
returns-in-89 c = line c.in-89.is

pub returns-in-90 : goal.returns-in-90
unfolding rule_of shape slots_of flags_below
returns-in-90 c = line c.in-90.is

pub returns-in-91 : goal.returns-in-91
unfolding rule_of shape slots_of flags_below
returns-in-91 c = line c.in-91.is

pub returns-in-92 : goal.returns-in-92
unfolding rule_of shape slots_of flags_below
returns-in-92 c = line c.in-92.is

pub returns-in-93 : goal.returns-in-93
unfolding rule_of shape slots_of flags_below
returns-in-93 c = line c.in-93.is

pub returns-in-94 : goal.returns-in-94
unfolding rule_of shape slots_of flags_below
returns-in-94 c = line c.in-94.is

pub returns-in-95 : goal.returns-in-95
unfolding rule_of shape slots_of flags_below
returns-in-95 c = line c.in-95.is

pub returns-in-96 : goal.returns-in-96
unfolding rule_of shape slots_of flags_below
returns-in-96 c = line c.in-96.is

pub returns-in-97 : goal.returns-in-97
unfolding rule_of shape slots_of flags_below
returns-in-97 c = line c.in-97.is

pub returns-in-98 : goal.returns-in-98
unfolding rule_of shape slots_of flags_below
returns-in-98 c = line c.in-98.is

pub returns-in-99 : goal.returns-in-99
unfolding rule_of shape slots_of flags_below
returns-in-99 c = line c.in-99.is

pub returns-in-100 : goal.returns-in-100
unfolding rule_of shape slots_of flags_below
returns-in-100 c = line c.in-100.is

pub returns-in-101 : goal.returns-in-101
unfolding rule_of shape slots_of flags_below
returns-in-101 c = line c.in-101.is

pub returns-in-102 : goal.returns-in-102
unfolding rule_of shape slots_of flags_below
returns-in-102 c = line c.in-102.is

pub returns-in-103 : goal.returns-in-103
unfolding rule_of shape slots_of flags_below
returns-in-103 c = line c.in-103.is

pub returns-in-104 : goal.returns-in-104
unfolding rule_of shape slots_of flags_below
returns-in-104 c = line c.in-104.is

pub returns-in-105 : goal.returns-in-105
unfolding rule_of shape slots_of flags_below
returns-in-105 c = line c.in-105.is

pub returns-in-106 : goal.returns-in-106
unfolding rule_of shape slots_of flags_below
returns-in-106 c = line c.in-106.is

pub returns-in-107 : goal.returns-in-107
unfolding rule_of shape slots_of flags_below
returns-in-107 c = line c.in-107.is

pub returns-in-108 : goal.returns-in-108
unfolding rule_of shape slots_of flags_below
returns-in-108 c = line c.in-108.is

pub returns-in-109 : goal.returns-in-109
unfolding rule_of shape slots_of flags_below
returns-in-109 c = line c.in-109.is

pub returns-in-110 : goal.returns-in-110
unfolding rule_of shape slots_of flags_below
returns-in-110 c = line c.in-110.is

pub returns-in-111 : goal.returns-in-111
unfolding rule_of shape slots_of flags_below
returns-in-111 c = line c.in-111.is

pub returns-in-112 : goal.returns-in-112
unfolding rule_of shape slots_of flags_below
returns-in-112 c = line c.in-112.is

pub returns-in-113 : goal.returns-in-113
unfolding rule_of shape slots_of flags_below
returns-in-113 c = line c.in-113.is

pub returns-in-114 : goal.returns-in-114
unfolding rule_of shape slots_of flags_below
returns-in-114 c = line c.in-114.is

pub returns-in-115 : goal.returns-in-115
unfolding rule_of shape slots_of flags_below
returns-in-115 c = line c.in-115.is

pub returns-in-116 : goal.returns-in-116
unfolding rule_of shape slots_of flags_below
returns-in-116 c = line c.in-116.is

pub returns-in-117 : goal.returns-in-117
unfolding rule_of shape slots_of flags_below
returns-in-117 c = line c.in-117.is

pub returns-in-118 : goal.returns-in-118
unfolding rule_of shape slots_of flags_below
returns-in-118 c = line c.in-118.is

pub returns-in-119 : goal.returns-in-119
unfolding rule_of shape slots_of flags_below
returns-in-119 c = line c.in-119.is

pub returns-in-120 : goal.returns-in-120
unfolding rule_of shape slots_of flags_below
returns-in-120 c = line c.in-120.is
