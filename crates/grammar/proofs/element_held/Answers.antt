-- `grammar::element_held` meets its contract: the number of each place is computed, and there is no other place.
use Prim.Native.Nat.{ℕ}
use native.Mathlib.Omega.{arith}
use mathlib.Core.Path.{◌≡◌, ap, sym}
use Rattle.laws.specs.Apart.{apart}
use Rattle.grammar.specs.Slots.{elements}
use Rattle.grammar.specs.Classes.{classes_held, classes, class_at}
use Rattle.grammar.specs.Packed.{element_of, numbered, same_class, same_rule}
use Rattle.grammar.proofs.element_held.Goals as goal

line : {n k : ℕ} → n ≡ k → element_of k ≡ element_of n
line e = ap element_of (sym e)

pub returns-in_default : goal.returns-in_default
returns-in_default c = absurd (omega (arith, apart classes_held c.args.place c.in_default.in_default-own.rest))

pub returns-in-0 : goal.returns-in-0
unfolding element_of numbered same_class same_rule elements class_at classes
returns-in-0 c = line c.in-0.is

pub returns-in-1 : goal.returns-in-1
unfolding element_of numbered same_class same_rule elements class_at classes
returns-in-1 c = line c.in-1.is

pub returns-in-2 : goal.returns-in-2
unfolding element_of numbered same_class same_rule elements class_at classes
returns-in-2 c = line c.in-2.is

pub returns-in-3 : goal.returns-in-3
unfolding element_of numbered same_class same_rule elements class_at classes
returns-in-3 c = line c.in-3.is

pub returns-in-4 : goal.returns-in-4
unfolding element_of numbered same_class same_rule elements class_at classes
returns-in-4 c = line c.in-4.is

pub returns-in-5 : goal.returns-in-5
unfolding element_of numbered same_class same_rule elements class_at classes
returns-in-5 c = line c.in-5.is

pub returns-in-6 : goal.returns-in-6
unfolding element_of numbered same_class same_rule elements class_at classes
returns-in-6 c = line c.in-6.is

pub returns-in-7 : goal.returns-in-7
unfolding element_of numbered same_class same_rule elements class_at classes
returns-in-7 c = line c.in-7.is

pub returns-in-8 : goal.returns-in-8
unfolding element_of numbered same_class same_rule elements class_at classes
returns-in-8 c = line c.in-8.is

pub returns-in-9 : goal.returns-in-9
unfolding element_of numbered same_class same_rule elements class_at classes
returns-in-9 c = line c.in-9.is

pub returns-in-10 : goal.returns-in-10
unfolding element_of numbered same_class same_rule elements class_at classes
returns-in-10 c = line c.in-10.is

pub returns-in-11 : goal.returns-in-11
unfolding element_of numbered same_class same_rule elements class_at classes
returns-in-11 c = line c.in-11.is

pub returns-in-12 : goal.returns-in-12
unfolding element_of numbered same_class same_rule elements class_at classes
returns-in-12 c = line c.in-12.is

pub returns-in-13 : goal.returns-in-13
unfolding element_of numbered same_class same_rule elements class_at classes
returns-in-13 c = line c.in-13.is

pub returns-in-14 : goal.returns-in-14
unfolding element_of numbered same_class same_rule elements class_at classes
returns-in-14 c = line c.in-14.is

pub returns-in-15 : goal.returns-in-15
unfolding element_of numbered same_class same_rule elements class_at classes
returns-in-15 c = line c.in-15.is

pub returns-in-16 : goal.returns-in-16
unfolding element_of numbered same_class same_rule elements class_at classes
returns-in-16 c = line c.in-16.is

pub returns-in-17 : goal.returns-in-17
unfolding element_of numbered same_class same_rule elements class_at classes
returns-in-17 c = line c.in-17.is

pub returns-in-18 : goal.returns-in-18
unfolding element_of numbered same_class same_rule elements class_at classes
returns-in-18 c = line c.in-18.is

pub returns-in-19 : goal.returns-in-19
unfolding element_of numbered same_class same_rule elements class_at classes
returns-in-19 c = line c.in-19.is

pub returns-in-20 : goal.returns-in-20
unfolding element_of numbered same_class same_rule elements class_at classes
returns-in-20 c = line c.in-20.is

pub returns-in-21 : goal.returns-in-21
unfolding element_of numbered same_class same_rule elements class_at classes
returns-in-21 c = line c.in-21.is

pub returns-in-22 : goal.returns-in-22
unfolding element_of numbered same_class same_rule elements class_at classes
returns-in-22 c = line c.in-22.is

pub returns-in-23 : goal.returns-in-23
unfolding element_of numbered same_class same_rule elements class_at classes
returns-in-23 c = line c.in-23.is

pub returns-in-24 : goal.returns-in-24
unfolding element_of numbered same_class same_rule elements class_at classes
returns-in-24 c = line c.in-24.is

pub returns-in-25 : goal.returns-in-25
unfolding element_of numbered same_class same_rule elements class_at classes
returns-in-25 c = line c.in-25.is

pub returns-in-26 : goal.returns-in-26
unfolding element_of numbered same_class same_rule elements class_at classes
returns-in-26 c = line c.in-26.is

pub returns-in-27 : goal.returns-in-27
unfolding element_of numbered same_class same_rule elements class_at classes
returns-in-27 c = line c.in-27.is

pub returns-in-28 : goal.returns-in-28
unfolding element_of numbered same_class same_rule elements class_at classes
returns-in-28 c = line c.in-28.is

pub returns-in-29 : goal.returns-in-29
unfolding element_of numbered same_class same_rule elements class_at classes
returns-in-29 c = line c.in-29.is

pub returns-in-30 : goal.returns-in-30
unfolding element_of numbered same_class same_rule elements class_at classes
returns-in-30 c = line c.in-30.is

pub returns-in-31 : goal.returns-in-31
unfolding element_of numbered same_class same_rule elements class_at classes
returns-in-31 c = line c.in-31.is

pub returns-in-32 : goal.returns-in-32
unfolding element_of numbered same_class same_rule elements class_at classes
returns-in-32 c = line c.in-32.is

pub returns-in-33 : goal.returns-in-33
unfolding element_of numbered same_class same_rule elements class_at classes
returns-in-33 c = line c.in-33.is

pub returns-in-34 : goal.returns-in-34
unfolding element_of numbered same_class same_rule elements class_at classes
returns-in-34 c = line c.in-34.is

pub returns-in-35 : goal.returns-in-35
unfolding element_of numbered same_class same_rule elements class_at classes
returns-in-35 c = line c.in-35.is

pub returns-in-36 : goal.returns-in-36
unfolding element_of numbered same_class same_rule elements class_at classes
returns-in-36 c = line c.in-36.is

pub returns-in-37 : goal.returns-in-37
unfolding element_of numbered same_class same_rule elements class_at classes
returns-in-37 c = line c.in-37.is

pub returns-in-38 : goal.returns-in-38
unfolding element_of numbered same_class same_rule elements class_at classes
returns-in-38 c = line c.in-38.is

pub returns-in-39 : goal.returns-in-39
unfolding element_of numbered same_class same_rule elements class_at classes
returns-in-39 c = line c.in-39.is

pub returns-in-40 : goal.returns-in-40
unfolding element_of numbered same_class same_rule elements class_at classes
returns-in-40 c = line c.in-40.is

pub returns-in-41 : goal.returns-in-41
unfolding element_of numbered same_class same_rule elements class_at classes
returns-in-41 c = line c.in-41.is

pub returns-in-42 : goal.returns-in-42
unfolding element_of numbered same_class same_rule elements class_at classes
returns-in-42 c = line c.in-42.is

pub returns-in-43 : goal.returns-in-43
unfolding element_of numbered same_class same_rule elements class_at classes
returns-in-43 c = line c.in-43.is

pub returns-in-44 : goal.returns-in-44
unfolding element_of numbered same_class same_rule elements class_at classes
returns-in-44 c = line c.in-44.is

pub returns-in-45 : goal.returns-in-45
unfolding element_of numbered same_class same_rule elements class_at classes
returns-in-45 c = line c.in-45.is

pub returns-in-46 : goal.returns-in-46
unfolding element_of numbered same_class same_rule elements class_at classes
returns-in-46 c = line c.in-46.is

pub returns-in-47 : goal.returns-in-47
unfolding element_of numbered same_class same_rule elements class_at classes
returns-in-47 c = line c.in-47.is

pub returns-in-48 : goal.returns-in-48
unfolding element_of numbered same_class same_rule elements class_at classes
returns-in-48 c = line c.in-48.is

pub returns-in-49 : goal.returns-in-49
unfolding element_of numbered same_class same_rule elements class_at classes
returns-in-49 c = line c.in-49.is

pub returns-in-50 : goal.returns-in-50
unfolding element_of numbered same_class same_rule elements class_at classes
returns-in-50 c = line c.in-50.is
