-- `grammar::stands_held` meets its contract: the number of each kind is computed, and there is no other kind.
use Prim.Native.Nat.{ℕ}
use native.Mathlib.Omega.{arith}
use mathlib.Core.Path.{◌≡◌, ap, sym}
use Rattle.laws.specs.Apart.{apart}
use Rattle.grammar.specs.Slots.{allowed}
use Rattle.grammar.specs.Classes.{classes, class_at}
use Rattle.grammar.specs.Packed.{kinds_held, stands_of}
use Rattle.grammar.proofs.stands_held.Goals as goal

line : {n k : ℕ} → n ≡ k → stands_of k ≡ stands_of n
line e = ap stands_of (sym e)

pub returns-in_default : goal.returns-in_default
returns-in_default c = absurd (omega (arith, apart kinds_held c.args.kind c.in_default.in_default-own.rest))

pub returns-in-0 : goal.returns-in-0
unfolding stands_of class_at classes allowed
returns-in-0 c = line c.in-0.is

pub returns-in-1 : goal.returns-in-1
unfolding stands_of class_at classes allowed
returns-in-1 c = line c.in-1.is

pub returns-in-2 : goal.returns-in-2
unfolding stands_of class_at classes allowed
returns-in-2 c = line c.in-2.is

pub returns-in-3 : goal.returns-in-3
unfolding stands_of class_at classes allowed
returns-in-3 c = line c.in-3.is

pub returns-in-4 : goal.returns-in-4
unfolding stands_of class_at classes allowed
returns-in-4 c = line c.in-4.is

pub returns-in-5 : goal.returns-in-5
unfolding stands_of class_at classes allowed
returns-in-5 c = line c.in-5.is

pub returns-in-6 : goal.returns-in-6
unfolding stands_of class_at classes allowed
returns-in-6 c = line c.in-6.is

pub returns-in-7 : goal.returns-in-7
unfolding stands_of class_at classes allowed
returns-in-7 c = line c.in-7.is

pub returns-in-8 : goal.returns-in-8
unfolding stands_of class_at classes allowed
returns-in-8 c = line c.in-8.is

pub returns-in-9 : goal.returns-in-9
unfolding stands_of class_at classes allowed
returns-in-9 c = line c.in-9.is

pub returns-in-10 : goal.returns-in-10
unfolding stands_of class_at classes allowed
returns-in-10 c = line c.in-10.is

pub returns-in-11 : goal.returns-in-11
unfolding stands_of class_at classes allowed
returns-in-11 c = line c.in-11.is

pub returns-in-12 : goal.returns-in-12
unfolding stands_of class_at classes allowed
returns-in-12 c = line c.in-12.is

pub returns-in-13 : goal.returns-in-13
unfolding stands_of class_at classes allowed
returns-in-13 c = line c.in-13.is

pub returns-in-14 : goal.returns-in-14
unfolding stands_of class_at classes allowed
returns-in-14 c = line c.in-14.is

pub returns-in-15 : goal.returns-in-15
unfolding stands_of class_at classes allowed
returns-in-15 c = line c.in-15.is

pub returns-in-16 : goal.returns-in-16
unfolding stands_of class_at classes allowed
returns-in-16 c = line c.in-16.is

pub returns-in-17 : goal.returns-in-17
unfolding stands_of class_at classes allowed
returns-in-17 c = line c.in-17.is

pub returns-in-18 : goal.returns-in-18
unfolding stands_of class_at classes allowed
returns-in-18 c = line c.in-18.is

pub returns-in-19 : goal.returns-in-19
unfolding stands_of class_at classes allowed
returns-in-19 c = line c.in-19.is

pub returns-in-20 : goal.returns-in-20
unfolding stands_of class_at classes allowed
returns-in-20 c = line c.in-20.is

pub returns-in-21 : goal.returns-in-21
unfolding stands_of class_at classes allowed
returns-in-21 c = line c.in-21.is

pub returns-in-22 : goal.returns-in-22
unfolding stands_of class_at classes allowed
returns-in-22 c = line c.in-22.is

pub returns-in-23 : goal.returns-in-23
unfolding stands_of class_at classes allowed
returns-in-23 c = line c.in-23.is

pub returns-in-24 : goal.returns-in-24
unfolding stands_of class_at classes allowed
returns-in-24 c = line c.in-24.is

pub returns-in-25 : goal.returns-in-25
unfolding stands_of class_at classes allowed
returns-in-25 c = line c.in-25.is

pub returns-in-26 : goal.returns-in-26
unfolding stands_of class_at classes allowed
returns-in-26 c = line c.in-26.is

pub returns-in-27 : goal.returns-in-27
unfolding stands_of class_at classes allowed
returns-in-27 c = line c.in-27.is

pub returns-in-28 : goal.returns-in-28
unfolding stands_of class_at classes allowed
returns-in-28 c = line c.in-28.is

pub returns-in-29 : goal.returns-in-29
unfolding stands_of class_at classes allowed
returns-in-29 c = line c.in-29.is

pub returns-in-30 : goal.returns-in-30
unfolding stands_of class_at classes allowed
returns-in-30 c = line c.in-30.is

pub returns-in-31 : goal.returns-in-31
unfolding stands_of class_at classes allowed
returns-in-31 c = line c.in-31.is

pub returns-in-32 : goal.returns-in-32
unfolding stands_of class_at classes allowed
returns-in-32 c = line c.in-32.is

pub returns-in-33 : goal.returns-in-33
unfolding stands_of class_at classes allowed
returns-in-33 c = line c.in-33.is

pub returns-in-34 : goal.returns-in-34
unfolding stands_of class_at classes allowed
returns-in-34 c = line c.in-34.is

pub returns-in-35 : goal.returns-in-35
unfolding stands_of class_at classes allowed
returns-in-35 c = line c.in-35.is

pub returns-in-36 : goal.returns-in-36
unfolding stands_of class_at classes allowed
returns-in-36 c = line c.in-36.is

pub returns-in-37 : goal.returns-in-37
unfolding stands_of class_at classes allowed
returns-in-37 c = line c.in-37.is

pub returns-in-38 : goal.returns-in-38
unfolding stands_of class_at classes allowed
returns-in-38 c = line c.in-38.is

pub returns-in-39 : goal.returns-in-39
unfolding stands_of class_at classes allowed
returns-in-39 c = line c.in-39.is

pub returns-in-40 : goal.returns-in-40
unfolding stands_of class_at classes allowed
returns-in-40 c = line c.in-40.is

pub returns-in-41 : goal.returns-in-41
unfolding stands_of class_at classes allowed
returns-in-41 c = line c.in-41.is

pub returns-in-42 : goal.returns-in-42
unfolding stands_of class_at classes allowed
returns-in-42 c = line c.in-42.is

pub returns-in-43 : goal.returns-in-43
unfolding stands_of class_at classes allowed
returns-in-43 c = line c.in-43.is

pub returns-in-44 : goal.returns-in-44
unfolding stands_of class_at classes allowed
returns-in-44 c = line c.in-44.is

pub returns-in-45 : goal.returns-in-45
unfolding stands_of class_at classes allowed
returns-in-45 c = line c.in-45.is

pub returns-in-46 : goal.returns-in-46
unfolding stands_of class_at classes allowed
returns-in-46 c = line c.in-46.is

pub returns-in-47 : goal.returns-in-47
unfolding stands_of class_at classes allowed
returns-in-47 c = line c.in-47.is

pub returns-in-48 : goal.returns-in-48
unfolding stands_of class_at classes allowed
returns-in-48 c = line c.in-48.is

pub returns-in-49 : goal.returns-in-49
unfolding stands_of class_at classes allowed
returns-in-49 c = line c.in-49.is

pub returns-in-50 : goal.returns-in-50
unfolding stands_of class_at classes allowed
returns-in-50 c = line c.in-50.is

pub returns-in-51 : goal.returns-in-51
unfolding stands_of class_at classes allowed
returns-in-51 c = line c.in-51.is

pub returns-in-52 : goal.returns-in-52
unfolding stands_of class_at classes allowed
returns-in-52 c = line c.in-52.is

pub returns-in-53 : goal.returns-in-53
unfolding stands_of class_at classes allowed
returns-in-53 c = line c.in-53.is

pub returns-in-54 : goal.returns-in-54
unfolding stands_of class_at classes allowed
returns-in-54 c = line c.in-54.is

pub returns-in-55 : goal.returns-in-55
unfolding stands_of class_at classes allowed
returns-in-55 c = line c.in-55.is

pub returns-in-56 : goal.returns-in-56
unfolding stands_of class_at classes allowed
returns-in-56 c = line c.in-56.is

pub returns-in-57 : goal.returns-in-57
unfolding stands_of class_at classes allowed
returns-in-57 c = line c.in-57.is

pub returns-in-58 : goal.returns-in-58
unfolding stands_of class_at classes allowed
returns-in-58 c = line c.in-58.is

pub returns-in-59 : goal.returns-in-59
unfolding stands_of class_at classes allowed
returns-in-59 c = line c.in-59.is

pub returns-in-60 : goal.returns-in-60
unfolding stands_of class_at classes allowed
returns-in-60 c = line c.in-60.is

pub returns-in-61 : goal.returns-in-61
unfolding stands_of class_at classes allowed
returns-in-61 c = line c.in-61.is

pub returns-in-62 : goal.returns-in-62
unfolding stands_of class_at classes allowed
returns-in-62 c = line c.in-62.is

pub returns-in-63 : goal.returns-in-63
unfolding stands_of class_at classes allowed
returns-in-63 c = line c.in-63.is

pub returns-in-64 : goal.returns-in-64
unfolding stands_of class_at classes allowed
returns-in-64 c = line c.in-64.is

pub returns-in-65 : goal.returns-in-65
unfolding stands_of class_at classes allowed
returns-in-65 c = line c.in-65.is

pub returns-in-66 : goal.returns-in-66
unfolding stands_of class_at classes allowed
returns-in-66 c = line c.in-66.is

pub returns-in-67 : goal.returns-in-67
unfolding stands_of class_at classes allowed
returns-in-67 c = line c.in-67.is

pub returns-in-68 : goal.returns-in-68
unfolding stands_of class_at classes allowed
returns-in-68 c = line c.in-68.is

pub returns-in-69 : goal.returns-in-69
unfolding stands_of class_at classes allowed
returns-in-69 c = line c.in-69.is

pub returns-in-70 : goal.returns-in-70
unfolding stands_of class_at classes allowed
returns-in-70 c = line c.in-70.is

pub returns-in-71 : goal.returns-in-71
unfolding stands_of class_at classes allowed
returns-in-71 c = line c.in-71.is

pub returns-in-72 : goal.returns-in-72
unfolding stands_of class_at classes allowed
returns-in-72 c = line c.in-72.is

pub returns-in-73 : goal.returns-in-73
unfolding stands_of class_at classes allowed
returns-in-73 c = line c.in-73.is

pub returns-in-74 : goal.returns-in-74
unfolding stands_of class_at classes allowed
returns-in-74 c = line c.in-74.is

pub returns-in-75 : goal.returns-in-75
unfolding stands_of class_at classes allowed
returns-in-75 c = line c.in-75.is

pub returns-in-76 : goal.returns-in-76
unfolding stands_of class_at classes allowed
returns-in-76 c = line c.in-76.is

pub returns-in-77 : goal.returns-in-77
unfolding stands_of class_at classes allowed
returns-in-77 c = line c.in-77.is

pub returns-in-78 : goal.returns-in-78
unfolding stands_of class_at classes allowed
returns-in-78 c = line c.in-78.is

pub returns-in-79 : goal.returns-in-79
unfolding stands_of class_at classes allowed
returns-in-79 c = line c.in-79.is

pub returns-in-80 : goal.returns-in-80
unfolding stands_of class_at classes allowed
returns-in-80 c = line c.in-80.is

pub returns-in-81 : goal.returns-in-81
unfolding stands_of class_at classes allowed
returns-in-81 c = line c.in-81.is

pub returns-in-82 : goal.returns-in-82
unfolding stands_of class_at classes allowed
returns-in-82 c = line c.in-82.is

pub returns-in-83 : goal.returns-in-83
unfolding stands_of class_at classes allowed
returns-in-83 c = line c.in-83.is

pub returns-in-84 : goal.returns-in-84
unfolding stands_of class_at classes allowed
returns-in-84 c = line c.in-84.is

pub returns-in-85 : goal.returns-in-85
unfolding stands_of class_at classes allowed
returns-in-85 c = line c.in-85.is

pub returns-in-86 : goal.returns-in-86
unfolding stands_of class_at classes allowed
returns-in-86 c = line c.in-86.is

pub returns-in-87 : goal.returns-in-87
unfolding stands_of class_at classes allowed
returns-in-87 c = line c.in-87.is

pub returns-in-88 : goal.returns-in-88
unfolding stands_of class_at classes allowed
returns-in-88 c = line c.in-88.is

pub returns-in-89 : goal.returns-in-89
unfolding stands_of class_at classes allowed
returns-in-89 c = line c.in-89.is

pub returns-in-90 : goal.returns-in-90
unfolding stands_of class_at classes allowed
returns-in-90 c = line c.in-90.is

pub returns-in-91 : goal.returns-in-91
unfolding stands_of class_at classes allowed
returns-in-91 c = line c.in-91.is

pub returns-in-92 : goal.returns-in-92
unfolding stands_of class_at classes allowed
returns-in-92 c = line c.in-92.is

pub returns-in-93 : goal.returns-in-93
unfolding stands_of class_at classes allowed
returns-in-93 c = line c.in-93.is

pub returns-in-94 : goal.returns-in-94
unfolding stands_of class_at classes allowed
returns-in-94 c = line c.in-94.is

pub returns-in-95 : goal.returns-in-95
unfolding stands_of class_at classes allowed
returns-in-95 c = line c.in-95.is

pub returns-in-96 : goal.returns-in-96
unfolding stands_of class_at classes allowed
returns-in-96 c = line c.in-96.is

pub returns-in-97 : goal.returns-in-97
unfolding stands_of class_at classes allowed
returns-in-97 c = line c.in-97.is

pub returns-in-98 : goal.returns-in-98
unfolding stands_of class_at classes allowed
returns-in-98 c = line c.in-98.is

pub returns-in-99 : goal.returns-in-99
unfolding stands_of class_at classes allowed
returns-in-99 c = line c.in-99.is

pub returns-in-100 : goal.returns-in-100
unfolding stands_of class_at classes allowed
returns-in-100 c = line c.in-100.is

pub returns-in-101 : goal.returns-in-101
unfolding stands_of class_at classes allowed
returns-in-101 c = line c.in-101.is

pub returns-in-102 : goal.returns-in-102
unfolding stands_of class_at classes allowed
returns-in-102 c = line c.in-102.is

pub returns-in-103 : goal.returns-in-103
unfolding stands_of class_at classes allowed
returns-in-103 c = line c.in-103.is

pub returns-in-104 : goal.returns-in-104
unfolding stands_of class_at classes allowed
returns-in-104 c = line c.in-104.is

pub returns-in-105 : goal.returns-in-105
unfolding stands_of class_at classes allowed
returns-in-105 c = line c.in-105.is

pub returns-in-106 : goal.returns-in-106
unfolding stands_of class_at classes allowed
returns-in-106 c = line c.in-106.is

pub returns-in-107 : goal.returns-in-107
unfolding stands_of class_at classes allowed
returns-in-107 c = line c.in-107.is

pub returns-in-108 : goal.returns-in-108
unfolding stands_of class_at classes allowed
returns-in-108 c = line c.in-108.is

pub returns-in-109 : goal.returns-in-109
unfolding stands_of class_at classes allowed
returns-in-109 c = line c.in-109.is

pub returns-in-110 : goal.returns-in-110
unfolding stands_of class_at classes allowed
returns-in-110 c = line c.in-110.is

pub returns-in-111 : goal.returns-in-111
unfolding stands_of class_at classes allowed
returns-in-111 c = line c.in-111.is

pub returns-in-112 : goal.returns-in-112
unfolding stands_of class_at classes allowed
returns-in-112 c = line c.in-112.is

pub returns-in-113 : goal.returns-in-113
unfolding stands_of class_at classes allowed
returns-in-113 c = line c.in-113.is

pub returns-in-114 : goal.returns-in-114
unfolding stands_of class_at classes allowed
returns-in-114 c = line c.in-114.is

pub returns-in-115 : goal.returns-in-115
unfolding stands_of class_at classes allowed
returns-in-115 c = line c.in-115.is

pub returns-in-116 : goal.returns-in-116
unfolding stands_of class_at classes allowed
returns-in-116 c = line c.in-116.is

pub returns-in-117 : goal.returns-in-117
unfolding stands_of class_at classes allowed
returns-in-117 c = line c.in-117.is

pub returns-in-118 : goal.returns-in-118
unfolding stands_of class_at classes allowed
returns-in-118 c = line c.in-118.is

pub returns-in-119 : goal.returns-in-119
unfolding stands_of class_at classes allowed
returns-in-119 c = line c.in-119.is

pub returns-in-120 : goal.returns-in-120
unfolding stands_of class_at classes allowed
returns-in-120 c = line c.in-120.is
