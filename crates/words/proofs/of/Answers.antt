-- `words::of` meets its contract: an arm for each number below 194, whose spelling is computed, and past them none.
use Prim.Native.Nat.{ℕ}
use mathlib.Core.Path.{◌≡◌, sym, ap}
use Rattle.laws.specs.Apart.{apart}
use Rattle.spelling.specs.Rows.{rows}
use Rattle.spelling.specs.Spelling.{spelling, row}
use Rattle.spelling.specs.Table.{rows_held}
use Rattle.spelling.specs.Laws.{silent}
use Rattle.words.proofs.of.Goals as goal

line : {n k : ℕ} → n ≡ k → spelling k ≡ spelling n
line e = sym (ap spelling e)

pub returns-in_default : goal.returns-in_default
returns-in_default c = sym (silent _ (apart rows_held _ c.in_default.in_default-own.rest))

pub returns-in-0 : goal.returns-in-0
unfolding spelling row rows
returns-in-0 c = line c.in-0.is

pub returns-in-1 : goal.returns-in-1
unfolding spelling row rows
returns-in-1 c = line c.in-1.is

pub returns-in-2 : goal.returns-in-2
unfolding spelling row rows
returns-in-2 c = line c.in-2.is

pub returns-in-3 : goal.returns-in-3
unfolding spelling row rows
returns-in-3 c = line c.in-3.is

pub returns-in-4 : goal.returns-in-4
unfolding spelling row rows
returns-in-4 c = line c.in-4.is

pub returns-in-5 : goal.returns-in-5
unfolding spelling row rows
returns-in-5 c = line c.in-5.is

pub returns-in-6 : goal.returns-in-6
unfolding spelling row rows
returns-in-6 c = line c.in-6.is

pub returns-in-7 : goal.returns-in-7
unfolding spelling row rows
returns-in-7 c = line c.in-7.is

pub returns-in-8 : goal.returns-in-8
unfolding spelling row rows
returns-in-8 c = line c.in-8.is

pub returns-in-9 : goal.returns-in-9
unfolding spelling row rows
returns-in-9 c = line c.in-9.is

pub returns-in-10 : goal.returns-in-10
unfolding spelling row rows
returns-in-10 c = line c.in-10.is

pub returns-in-11 : goal.returns-in-11
unfolding spelling row rows
returns-in-11 c = line c.in-11.is

pub returns-in-12 : goal.returns-in-12
unfolding spelling row rows
returns-in-12 c = line c.in-12.is

pub returns-in-13 : goal.returns-in-13
unfolding spelling row rows
returns-in-13 c = line c.in-13.is

pub returns-in-14 : goal.returns-in-14
unfolding spelling row rows
returns-in-14 c = line c.in-14.is

pub returns-in-15 : goal.returns-in-15
unfolding spelling row rows
returns-in-15 c = line c.in-15.is

pub returns-in-16 : goal.returns-in-16
unfolding spelling row rows
returns-in-16 c = line c.in-16.is

pub returns-in-17 : goal.returns-in-17
unfolding spelling row rows
returns-in-17 c = line c.in-17.is

pub returns-in-18 : goal.returns-in-18
unfolding spelling row rows
returns-in-18 c = line c.in-18.is

pub returns-in-19 : goal.returns-in-19
unfolding spelling row rows
returns-in-19 c = line c.in-19.is

pub returns-in-20 : goal.returns-in-20
unfolding spelling row rows
returns-in-20 c = line c.in-20.is

pub returns-in-21 : goal.returns-in-21
unfolding spelling row rows
returns-in-21 c = line c.in-21.is

pub returns-in-22 : goal.returns-in-22
unfolding spelling row rows
returns-in-22 c = line c.in-22.is

pub returns-in-23 : goal.returns-in-23
unfolding spelling row rows
returns-in-23 c = line c.in-23.is

pub returns-in-24 : goal.returns-in-24
unfolding spelling row rows
returns-in-24 c = line c.in-24.is

pub returns-in-25 : goal.returns-in-25
unfolding spelling row rows
returns-in-25 c = line c.in-25.is

pub returns-in-26 : goal.returns-in-26
unfolding spelling row rows
returns-in-26 c = line c.in-26.is

pub returns-in-27 : goal.returns-in-27
unfolding spelling row rows
returns-in-27 c = line c.in-27.is

pub returns-in-28 : goal.returns-in-28
unfolding spelling row rows
returns-in-28 c = line c.in-28.is

pub returns-in-29 : goal.returns-in-29
unfolding spelling row rows
returns-in-29 c = line c.in-29.is

pub returns-in-30 : goal.returns-in-30
unfolding spelling row rows
returns-in-30 c = line c.in-30.is

pub returns-in-31 : goal.returns-in-31
unfolding spelling row rows
returns-in-31 c = line c.in-31.is

pub returns-in-32 : goal.returns-in-32
unfolding spelling row rows
returns-in-32 c = line c.in-32.is

pub returns-in-33 : goal.returns-in-33
unfolding spelling row rows
returns-in-33 c = line c.in-33.is

pub returns-in-34 : goal.returns-in-34
unfolding spelling row rows
returns-in-34 c = line c.in-34.is

pub returns-in-35 : goal.returns-in-35
unfolding spelling row rows
returns-in-35 c = line c.in-35.is

pub returns-in-36 : goal.returns-in-36
unfolding spelling row rows
returns-in-36 c = line c.in-36.is

pub returns-in-37 : goal.returns-in-37
unfolding spelling row rows
returns-in-37 c = line c.in-37.is

pub returns-in-38 : goal.returns-in-38
unfolding spelling row rows
returns-in-38 c = line c.in-38.is

pub returns-in-39 : goal.returns-in-39
unfolding spelling row rows
returns-in-39 c = line c.in-39.is

pub returns-in-40 : goal.returns-in-40
unfolding spelling row rows
returns-in-40 c = line c.in-40.is

pub returns-in-41 : goal.returns-in-41
unfolding spelling row rows
returns-in-41 c = line c.in-41.is

pub returns-in-42 : goal.returns-in-42
unfolding spelling row rows
returns-in-42 c = line c.in-42.is

pub returns-in-43 : goal.returns-in-43
unfolding spelling row rows
returns-in-43 c = line c.in-43.is

pub returns-in-44 : goal.returns-in-44
unfolding spelling row rows
returns-in-44 c = line c.in-44.is

pub returns-in-45 : goal.returns-in-45
unfolding spelling row rows
returns-in-45 c = line c.in-45.is

pub returns-in-46 : goal.returns-in-46
unfolding spelling row rows
returns-in-46 c = line c.in-46.is

pub returns-in-47 : goal.returns-in-47
unfolding spelling row rows
returns-in-47 c = line c.in-47.is

pub returns-in-48 : goal.returns-in-48
unfolding spelling row rows
returns-in-48 c = line c.in-48.is

pub returns-in-49 : goal.returns-in-49
unfolding spelling row rows
returns-in-49 c = line c.in-49.is

pub returns-in-50 : goal.returns-in-50
unfolding spelling row rows
returns-in-50 c = line c.in-50.is

pub returns-in-51 : goal.returns-in-51
unfolding spelling row rows
returns-in-51 c = line c.in-51.is

pub returns-in-52 : goal.returns-in-52
unfolding spelling row rows
returns-in-52 c = line c.in-52.is

pub returns-in-53 : goal.returns-in-53
unfolding spelling row rows
returns-in-53 c = line c.in-53.is

pub returns-in-54 : goal.returns-in-54
unfolding spelling row rows
returns-in-54 c = line c.in-54.is

pub returns-in-55 : goal.returns-in-55
unfolding spelling row rows
returns-in-55 c = line c.in-55.is

pub returns-in-56 : goal.returns-in-56
unfolding spelling row rows
returns-in-56 c = line c.in-56.is

pub returns-in-57 : goal.returns-in-57
unfolding spelling row rows
returns-in-57 c = line c.in-57.is

pub returns-in-58 : goal.returns-in-58
unfolding spelling row rows
returns-in-58 c = line c.in-58.is

pub returns-in-59 : goal.returns-in-59
unfolding spelling row rows
returns-in-59 c = line c.in-59.is

pub returns-in-60 : goal.returns-in-60
unfolding spelling row rows
returns-in-60 c = line c.in-60.is

pub returns-in-61 : goal.returns-in-61
unfolding spelling row rows
returns-in-61 c = line c.in-61.is

pub returns-in-62 : goal.returns-in-62
unfolding spelling row rows
returns-in-62 c = line c.in-62.is

pub returns-in-63 : goal.returns-in-63
unfolding spelling row rows
returns-in-63 c = line c.in-63.is

pub returns-in-64 : goal.returns-in-64
unfolding spelling row rows
returns-in-64 c = line c.in-64.is

pub returns-in-65 : goal.returns-in-65
unfolding spelling row rows
returns-in-65 c = line c.in-65.is

pub returns-in-66 : goal.returns-in-66
unfolding spelling row rows
returns-in-66 c = line c.in-66.is

pub returns-in-67 : goal.returns-in-67
unfolding spelling row rows
returns-in-67 c = line c.in-67.is

pub returns-in-68 : goal.returns-in-68
unfolding spelling row rows
returns-in-68 c = line c.in-68.is

pub returns-in-69 : goal.returns-in-69
unfolding spelling row rows
returns-in-69 c = line c.in-69.is

pub returns-in-70 : goal.returns-in-70
unfolding spelling row rows
returns-in-70 c = line c.in-70.is

pub returns-in-71 : goal.returns-in-71
unfolding spelling row rows
returns-in-71 c = line c.in-71.is

pub returns-in-72 : goal.returns-in-72
unfolding spelling row rows
returns-in-72 c = line c.in-72.is

pub returns-in-73 : goal.returns-in-73
unfolding spelling row rows
returns-in-73 c = line c.in-73.is

pub returns-in-74 : goal.returns-in-74
unfolding spelling row rows
returns-in-74 c = line c.in-74.is

pub returns-in-75 : goal.returns-in-75
unfolding spelling row rows
returns-in-75 c = line c.in-75.is

pub returns-in-76 : goal.returns-in-76
unfolding spelling row rows
returns-in-76 c = line c.in-76.is

pub returns-in-77 : goal.returns-in-77
unfolding spelling row rows
returns-in-77 c = line c.in-77.is

pub returns-in-78 : goal.returns-in-78
unfolding spelling row rows
returns-in-78 c = line c.in-78.is

pub returns-in-79 : goal.returns-in-79
unfolding spelling row rows
returns-in-79 c = line c.in-79.is

pub returns-in-80 : goal.returns-in-80
unfolding spelling row rows
returns-in-80 c = line c.in-80.is

pub returns-in-81 : goal.returns-in-81
unfolding spelling row rows
returns-in-81 c = line c.in-81.is

pub returns-in-82 : goal.returns-in-82
unfolding spelling row rows
returns-in-82 c = line c.in-82.is

pub returns-in-83 : goal.returns-in-83
unfolding spelling row rows
returns-in-83 c = line c.in-83.is

pub returns-in-84 : goal.returns-in-84
unfolding spelling row rows
returns-in-84 c = line c.in-84.is

pub returns-in-85 : goal.returns-in-85
unfolding spelling row rows
returns-in-85 c = line c.in-85.is

pub returns-in-86 : goal.returns-in-86
unfolding spelling row rows
returns-in-86 c = line c.in-86.is

pub returns-in-87 : goal.returns-in-87
unfolding spelling row rows
returns-in-87 c = line c.in-87.is

pub returns-in-88 : goal.returns-in-88
unfolding spelling row rows
returns-in-88 c = line c.in-88.is

pub returns-in-89 : goal.returns-in-89
unfolding spelling row rows
returns-in-89 c = line c.in-89.is

pub returns-in-90 : goal.returns-in-90
unfolding spelling row rows
returns-in-90 c = line c.in-90.is

pub returns-in-91 : goal.returns-in-91
unfolding spelling row rows
returns-in-91 c = line c.in-91.is

pub returns-in-92 : goal.returns-in-92
unfolding spelling row rows
returns-in-92 c = line c.in-92.is

pub returns-in-93 : goal.returns-in-93
unfolding spelling row rows
returns-in-93 c = line c.in-93.is

pub returns-in-94 : goal.returns-in-94
unfolding spelling row rows
returns-in-94 c = line c.in-94.is

pub returns-in-95 : goal.returns-in-95
unfolding spelling row rows
returns-in-95 c = line c.in-95.is

pub returns-in-96 : goal.returns-in-96
unfolding spelling row rows
returns-in-96 c = line c.in-96.is

pub returns-in-97 : goal.returns-in-97
unfolding spelling row rows
returns-in-97 c = line c.in-97.is

pub returns-in-98 : goal.returns-in-98
unfolding spelling row rows
returns-in-98 c = line c.in-98.is

pub returns-in-99 : goal.returns-in-99
unfolding spelling row rows
returns-in-99 c = line c.in-99.is

pub returns-in-100 : goal.returns-in-100
unfolding spelling row rows
returns-in-100 c = line c.in-100.is

pub returns-in-101 : goal.returns-in-101
unfolding spelling row rows
returns-in-101 c = line c.in-101.is

pub returns-in-102 : goal.returns-in-102
unfolding spelling row rows
returns-in-102 c = line c.in-102.is

pub returns-in-103 : goal.returns-in-103
unfolding spelling row rows
returns-in-103 c = line c.in-103.is

pub returns-in-104 : goal.returns-in-104
unfolding spelling row rows
returns-in-104 c = line c.in-104.is

pub returns-in-105 : goal.returns-in-105
unfolding spelling row rows
returns-in-105 c = line c.in-105.is

pub returns-in-106 : goal.returns-in-106
unfolding spelling row rows
returns-in-106 c = line c.in-106.is

pub returns-in-107 : goal.returns-in-107
unfolding spelling row rows
returns-in-107 c = line c.in-107.is

pub returns-in-108 : goal.returns-in-108
unfolding spelling row rows
returns-in-108 c = line c.in-108.is

pub returns-in-109 : goal.returns-in-109
unfolding spelling row rows
returns-in-109 c = line c.in-109.is

pub returns-in-110 : goal.returns-in-110
unfolding spelling row rows
returns-in-110 c = line c.in-110.is

pub returns-in-111 : goal.returns-in-111
unfolding spelling row rows
returns-in-111 c = line c.in-111.is

pub returns-in-112 : goal.returns-in-112
unfolding spelling row rows
returns-in-112 c = line c.in-112.is

pub returns-in-113 : goal.returns-in-113
unfolding spelling row rows
returns-in-113 c = line c.in-113.is

pub returns-in-114 : goal.returns-in-114
unfolding spelling row rows
returns-in-114 c = line c.in-114.is

pub returns-in-115 : goal.returns-in-115
unfolding spelling row rows
returns-in-115 c = line c.in-115.is

pub returns-in-116 : goal.returns-in-116
unfolding spelling row rows
returns-in-116 c = line c.in-116.is

pub returns-in-117 : goal.returns-in-117
unfolding spelling row rows
returns-in-117 c = line c.in-117.is

pub returns-in-118 : goal.returns-in-118
unfolding spelling row rows
returns-in-118 c = line c.in-118.is

pub returns-in-119 : goal.returns-in-119
unfolding spelling row rows
returns-in-119 c = line c.in-119.is

pub returns-in-120 : goal.returns-in-120
unfolding spelling row rows
returns-in-120 c = line c.in-120.is

pub returns-in-121 : goal.returns-in-121
unfolding spelling row rows
returns-in-121 c = line c.in-121.is

pub returns-in-122 : goal.returns-in-122
unfolding spelling row rows
returns-in-122 c = line c.in-122.is

pub returns-in-123 : goal.returns-in-123
unfolding spelling row rows
returns-in-123 c = line c.in-123.is

pub returns-in-124 : goal.returns-in-124
unfolding spelling row rows
returns-in-124 c = line c.in-124.is

pub returns-in-125 : goal.returns-in-125
unfolding spelling row rows
returns-in-125 c = line c.in-125.is

pub returns-in-126 : goal.returns-in-126
unfolding spelling row rows
returns-in-126 c = line c.in-126.is

pub returns-in-127 : goal.returns-in-127
unfolding spelling row rows
returns-in-127 c = line c.in-127.is

pub returns-in-128 : goal.returns-in-128
unfolding spelling row rows
returns-in-128 c = line c.in-128.is

pub returns-in-129 : goal.returns-in-129
unfolding spelling row rows
returns-in-129 c = line c.in-129.is

pub returns-in-130 : goal.returns-in-130
unfolding spelling row rows
returns-in-130 c = line c.in-130.is

pub returns-in-131 : goal.returns-in-131
unfolding spelling row rows
returns-in-131 c = line c.in-131.is

pub returns-in-132 : goal.returns-in-132
unfolding spelling row rows
returns-in-132 c = line c.in-132.is

pub returns-in-133 : goal.returns-in-133
unfolding spelling row rows
returns-in-133 c = line c.in-133.is

pub returns-in-134 : goal.returns-in-134
unfolding spelling row rows
returns-in-134 c = line c.in-134.is

pub returns-in-135 : goal.returns-in-135
unfolding spelling row rows
returns-in-135 c = line c.in-135.is

pub returns-in-136 : goal.returns-in-136
unfolding spelling row rows
returns-in-136 c = line c.in-136.is

pub returns-in-137 : goal.returns-in-137
unfolding spelling row rows
returns-in-137 c = line c.in-137.is

pub returns-in-138 : goal.returns-in-138
unfolding spelling row rows
returns-in-138 c = line c.in-138.is

pub returns-in-139 : goal.returns-in-139
unfolding spelling row rows
returns-in-139 c = line c.in-139.is

pub returns-in-140 : goal.returns-in-140
unfolding spelling row rows
returns-in-140 c = line c.in-140.is

pub returns-in-141 : goal.returns-in-141
unfolding spelling row rows
returns-in-141 c = line c.in-141.is

pub returns-in-142 : goal.returns-in-142
unfolding spelling row rows
returns-in-142 c = line c.in-142.is

pub returns-in-143 : goal.returns-in-143
unfolding spelling row rows
returns-in-143 c = line c.in-143.is

pub returns-in-144 : goal.returns-in-144
unfolding spelling row rows
returns-in-144 c = line c.in-144.is

pub returns-in-145 : goal.returns-in-145
unfolding spelling row rows
returns-in-145 c = line c.in-145.is

pub returns-in-146 : goal.returns-in-146
unfolding spelling row rows
returns-in-146 c = line c.in-146.is

pub returns-in-147 : goal.returns-in-147
unfolding spelling row rows
returns-in-147 c = line c.in-147.is

pub returns-in-148 : goal.returns-in-148
unfolding spelling row rows
returns-in-148 c = line c.in-148.is

pub returns-in-149 : goal.returns-in-149
unfolding spelling row rows
returns-in-149 c = line c.in-149.is

pub returns-in-150 : goal.returns-in-150
unfolding spelling row rows
returns-in-150 c = line c.in-150.is

pub returns-in-151 : goal.returns-in-151
unfolding spelling row rows
returns-in-151 c = line c.in-151.is

pub returns-in-152 : goal.returns-in-152
unfolding spelling row rows
returns-in-152 c = line c.in-152.is

pub returns-in-153 : goal.returns-in-153
unfolding spelling row rows
returns-in-153 c = line c.in-153.is

pub returns-in-154 : goal.returns-in-154
unfolding spelling row rows
returns-in-154 c = line c.in-154.is

pub returns-in-155 : goal.returns-in-155
unfolding spelling row rows
returns-in-155 c = line c.in-155.is

pub returns-in-156 : goal.returns-in-156
unfolding spelling row rows
returns-in-156 c = line c.in-156.is

pub returns-in-157 : goal.returns-in-157
unfolding spelling row rows
returns-in-157 c = line c.in-157.is

pub returns-in-158 : goal.returns-in-158
unfolding spelling row rows
returns-in-158 c = line c.in-158.is

pub returns-in-159 : goal.returns-in-159
unfolding spelling row rows
returns-in-159 c = line c.in-159.is

pub returns-in-160 : goal.returns-in-160
unfolding spelling row rows
returns-in-160 c = line c.in-160.is

pub returns-in-161 : goal.returns-in-161
unfolding spelling row rows
returns-in-161 c = line c.in-161.is

pub returns-in-162 : goal.returns-in-162
unfolding spelling row rows
returns-in-162 c = line c.in-162.is

pub returns-in-163 : goal.returns-in-163
unfolding spelling row rows
returns-in-163 c = line c.in-163.is

pub returns-in-164 : goal.returns-in-164
unfolding spelling row rows
returns-in-164 c = line c.in-164.is

pub returns-in-165 : goal.returns-in-165
unfolding spelling row rows
returns-in-165 c = line c.in-165.is

pub returns-in-166 : goal.returns-in-166
unfolding spelling row rows
returns-in-166 c = line c.in-166.is

pub returns-in-167 : goal.returns-in-167
unfolding spelling row rows
returns-in-167 c = line c.in-167.is

pub returns-in-168 : goal.returns-in-168
unfolding spelling row rows
returns-in-168 c = line c.in-168.is

pub returns-in-169 : goal.returns-in-169
unfolding spelling row rows
returns-in-169 c = line c.in-169.is

pub returns-in-170 : goal.returns-in-170
unfolding spelling row rows
returns-in-170 c = line c.in-170.is

pub returns-in-171 : goal.returns-in-171
unfolding spelling row rows
returns-in-171 c = line c.in-171.is

pub returns-in-172 : goal.returns-in-172
unfolding spelling row rows
returns-in-172 c = line c.in-172.is

pub returns-in-173 : goal.returns-in-173
unfolding spelling row rows
returns-in-173 c = line c.in-173.is

pub returns-in-174 : goal.returns-in-174
unfolding spelling row rows
returns-in-174 c = line c.in-174.is

pub returns-in-175 : goal.returns-in-175
unfolding spelling row rows
returns-in-175 c = line c.in-175.is

pub returns-in-176 : goal.returns-in-176
unfolding spelling row rows
returns-in-176 c = line c.in-176.is

pub returns-in-177 : goal.returns-in-177
unfolding spelling row rows
returns-in-177 c = line c.in-177.is

pub returns-in-178 : goal.returns-in-178
unfolding spelling row rows
returns-in-178 c = line c.in-178.is

pub returns-in-179 : goal.returns-in-179
unfolding spelling row rows
returns-in-179 c = line c.in-179.is

pub returns-in-180 : goal.returns-in-180
unfolding spelling row rows
returns-in-180 c = line c.in-180.is

pub returns-in-181 : goal.returns-in-181
unfolding spelling row rows
returns-in-181 c = line c.in-181.is

pub returns-in-182 : goal.returns-in-182
unfolding spelling row rows
returns-in-182 c = line c.in-182.is

pub returns-in-183 : goal.returns-in-183
unfolding spelling row rows
returns-in-183 c = line c.in-183.is

pub returns-in-184 : goal.returns-in-184
unfolding spelling row rows
returns-in-184 c = line c.in-184.is

pub returns-in-185 : goal.returns-in-185
unfolding spelling row rows
returns-in-185 c = line c.in-185.is

pub returns-in-186 : goal.returns-in-186
unfolding spelling row rows
returns-in-186 c = line c.in-186.is

pub returns-in-187 : goal.returns-in-187
unfolding spelling row rows
returns-in-187 c = line c.in-187.is

pub returns-in-188 : goal.returns-in-188
unfolding spelling row rows
returns-in-188 c = line c.in-188.is

pub returns-in-189 : goal.returns-in-189
unfolding spelling row rows
returns-in-189 c = line c.in-189.is

pub returns-in-190 : goal.returns-in-190
unfolding spelling row rows
returns-in-190 c = line c.in-190.is

pub returns-in-191 : goal.returns-in-191
unfolding spelling row rows
returns-in-191 c = line c.in-191.is

pub returns-in-192 : goal.returns-in-192
unfolding spelling row rows
returns-in-192 c = line c.in-192.is

pub returns-in-193 : goal.returns-in-193
unfolding spelling row rows
returns-in-193 c = line c.in-193.is
