-- The three-feed table: "a constant table of 256 entries, indexed by the truth table of three feeds". The constants of src/table.rt are
-- these entries as numbers. Nothing is proved here.
use Rattle.std.specs.Prelude.{List, [], ◌∷◌, ℕ, ℤ, pos, neg_ℤ, get_or}
use Rattle.three_feeds.specs.declared.TableEntry.{TableEntry}
use Rattle.three_feeds.specs.declared.TableEntry.TheVariants.{HasGate, NoGate}

-- minus a number
abbrev negative : ℕ → ℤ
negative n = neg_ℤ (pos n)

-- HasGate: the weights of feeds 0, 1 and 2, and T. NoGate: two settings that are 1, and two that are 0.
unfoldable pub table_entries : List TableEntry
table_entries =
    HasGate (pos 0) (pos 0) (pos 0) (pos 1)  -- 0
    ∷ HasGate (negative 1) (negative 1) (negative 1) (pos 0)  -- 1
    ∷ HasGate (pos 1) (negative 1) (negative 1) (pos 1)  -- 2
    ∷ HasGate (pos 0) (negative 1) (negative 1) (pos 0)  -- 3
    ∷ HasGate (negative 1) (pos 1) (negative 1) (pos 1)  -- 4
    ∷ HasGate (negative 1) (pos 0) (negative 1) (pos 0)  -- 5
    ∷ NoGate 1 2 0 3  -- 6
    ∷ HasGate (negative 1) (negative 1) (negative 2) (negative 1)  -- 7
    ∷ HasGate (pos 1) (pos 1) (negative 1) (pos 2)  -- 8
    ∷ NoGate 0 3 1 2  -- 9
    ∷ HasGate (pos 1) (pos 0) (negative 1) (pos 1)  -- 10
    ∷ HasGate (pos 1) (negative 1) (negative 2) (pos 0)  -- 11
    ∷ HasGate (pos 0) (pos 1) (negative 1) (pos 1)  -- 12
    ∷ HasGate (negative 1) (pos 1) (negative 2) (pos 0)  -- 13
    ∷ HasGate (pos 1) (pos 1) (negative 2) (pos 1)  -- 14
    ∷ HasGate (pos 0) (pos 0) (negative 1) (pos 0)  -- 15
    ∷ HasGate (negative 1) (negative 1) (pos 1) (pos 1)  -- 16
    ∷ HasGate (negative 1) (negative 1) (pos 0) (pos 0)  -- 17
    ∷ NoGate 1 4 0 5  -- 18
    ∷ HasGate (negative 1) (negative 2) (negative 1) (negative 1)  -- 19
    ∷ NoGate 2 4 0 6  -- 20
    ∷ HasGate (negative 2) (negative 1) (negative 1) (negative 1)  -- 21
    ∷ NoGate 1 2 0 3  -- 22
    ∷ HasGate (negative 1) (negative 1) (negative 1) (negative 1)  -- 23
    ∷ NoGate 3 4 0 7  -- 24
    ∷ NoGate 0 3 1 2  -- 25
    ∷ NoGate 1 4 0 5  -- 26
    ∷ NoGate 3 4 2 5  -- 27
    ∷ NoGate 2 4 0 6  -- 28
    ∷ NoGate 3 4 1 6  -- 29
    ∷ NoGate 1 4 0 5  -- 30
    ∷ HasGate (negative 1) (negative 1) (negative 2) (negative 2)  -- 31
    ∷ HasGate (pos 1) (negative 1) (pos 1) (pos 2)  -- 32
    ∷ NoGate 0 5 1 4  -- 33
    ∷ HasGate (pos 1) (negative 1) (pos 0) (pos 1)  -- 34
    ∷ HasGate (pos 1) (negative 2) (negative 1) (pos 0)  -- 35
    ∷ NoGate 2 5 0 7  -- 36
    ∷ NoGate 0 5 1 4  -- 37
    ∷ NoGate 1 2 0 3  -- 38
    ∷ NoGate 2 5 3 4  -- 39
    ∷ NoGate 3 5 1 7  -- 40
    ∷ NoGate 0 3 1 2  -- 41
    ∷ HasGate (pos 2) (negative 1) (negative 1) (pos 1)  -- 42
    ∷ HasGate (pos 1) (negative 1) (negative 1) (pos 0)  -- 43
    ∷ NoGate 2 5 0 7  -- 44
    ∷ NoGate 0 5 1 4  -- 45
    ∷ NoGate 2 5 0 7  -- 46
    ∷ HasGate (pos 1) (negative 1) (negative 2) (negative 1)  -- 47
    ∷ HasGate (pos 0) (negative 1) (pos 1) (pos 1)  -- 48
    ∷ HasGate (negative 1) (negative 2) (pos 1) (pos 0)  -- 49
    ∷ HasGate (pos 1) (negative 2) (pos 1) (pos 1)  -- 50
    ∷ HasGate (pos 0) (negative 1) (pos 0) (pos 0)  -- 51
    ∷ NoGate 2 4 0 6  -- 52
    ∷ NoGate 2 5 1 6  -- 53
    ∷ NoGate 1 2 0 3  -- 54
    ∷ HasGate (negative 1) (negative 2) (negative 1) (negative 2)  -- 55
    ∷ NoGate 3 4 0 7  -- 56
    ∷ NoGate 0 3 1 2  -- 57
    ∷ NoGate 3 4 0 7  -- 58
    ∷ HasGate (pos 1) (negative 2) (negative 1) (negative 1)  -- 59
    ∷ NoGate 2 4 0 6  -- 60
    ∷ NoGate 2 5 1 6  -- 61
    ∷ NoGate 2 4 0 6  -- 62
    ∷ HasGate (pos 0) (negative 1) (negative 1) (negative 1)  -- 63
    ∷ HasGate (negative 1) (pos 1) (pos 1) (pos 2)  -- 64
    ∷ NoGate 0 6 2 4  -- 65
    ∷ NoGate 1 6 0 7  -- 66
    ∷ NoGate 0 6 2 4  -- 67
    ∷ HasGate (negative 1) (pos 1) (pos 0) (pos 1)  -- 68
    ∷ HasGate (negative 2) (pos 1) (negative 1) (pos 0)  -- 69
    ∷ NoGate 1 2 0 3  -- 70
    ∷ NoGate 1 6 3 4  -- 71
    ∷ NoGate 3 6 2 7  -- 72
    ∷ NoGate 0 3 1 2  -- 73
    ∷ NoGate 1 6 0 7  -- 74
    ∷ NoGate 0 6 2 4  -- 75
    ∷ HasGate (negative 1) (pos 2) (negative 1) (pos 1)  -- 76
    ∷ HasGate (negative 1) (pos 1) (negative 1) (pos 0)  -- 77
    ∷ NoGate 1 6 0 7  -- 78
    ∷ HasGate (negative 1) (pos 1) (negative 2) (negative 1)  -- 79
    ∷ HasGate (negative 1) (pos 0) (pos 1) (pos 1)  -- 80
    ∷ HasGate (negative 2) (negative 1) (pos 1) (pos 0)  -- 81
    ∷ NoGate 1 4 0 5  -- 82
    ∷ NoGate 1 6 2 5  -- 83
    ∷ HasGate (negative 2) (pos 1) (pos 1) (pos 1)  -- 84
    ∷ HasGate (negative 1) (pos 0) (pos 0) (pos 0)  -- 85
    ∷ NoGate 1 2 0 3  -- 86
    ∷ HasGate (negative 2) (negative 1) (negative 1) (negative 2)  -- 87
    ∷ NoGate 3 4 0 7  -- 88
    ∷ NoGate 0 3 1 2  -- 89
    ∷ NoGate 1 4 0 5  -- 90
    ∷ NoGate 1 6 2 5  -- 91
    ∷ NoGate 3 4 0 7  -- 92
    ∷ HasGate (negative 2) (pos 1) (negative 1) (negative 1)  -- 93
    ∷ NoGate 1 4 0 5  -- 94
    ∷ HasGate (negative 1) (pos 0) (negative 1) (negative 1)  -- 95
    ∷ NoGate 5 6 4 7  -- 96
    ∷ NoGate 0 5 1 4  -- 97
    ∷ NoGate 1 6 0 7  -- 98
    ∷ NoGate 0 6 2 4  -- 99
    ∷ NoGate 2 5 0 7  -- 100
    ∷ NoGate 0 5 1 4  -- 101
    ∷ NoGate 1 2 0 3  -- 102
    ∷ NoGate 1 6 3 4  -- 103
    ∷ NoGate 3 5 1 7  -- 104
    ∷ NoGate 0 3 1 2  -- 105
    ∷ NoGate 1 6 0 7  -- 106
    ∷ NoGate 0 6 2 4  -- 107
    ∷ NoGate 2 5 0 7  -- 108
    ∷ NoGate 0 5 1 4  -- 109
    ∷ NoGate 1 6 0 7  -- 110
    ∷ NoGate 5 6 4 7  -- 111
    ∷ HasGate (negative 1) (negative 1) (pos 2) (pos 1)  -- 112
    ∷ HasGate (negative 1) (negative 1) (pos 1) (pos 0)  -- 113
    ∷ NoGate 1 6 0 7  -- 114
    ∷ HasGate (negative 1) (negative 2) (pos 1) (negative 1)  -- 115
    ∷ NoGate 2 5 0 7  -- 116
    ∷ HasGate (negative 2) (negative 1) (pos 1) (negative 1)  -- 117
    ∷ NoGate 1 2 0 3  -- 118
    ∷ HasGate (negative 1) (negative 1) (pos 0) (negative 1)  -- 119
    ∷ NoGate 3 4 0 7  -- 120
    ∷ NoGate 0 3 1 2  -- 121
    ∷ NoGate 1 6 0 7  -- 122
    ∷ NoGate 3 6 2 7  -- 123
    ∷ NoGate 2 5 0 7  -- 124
    ∷ NoGate 3 5 1 7  -- 125
    ∷ NoGate 1 6 0 7  -- 126
    ∷ HasGate (negative 1) (negative 1) (negative 1) (negative 2)  -- 127
    ∷ HasGate (pos 1) (pos 1) (pos 1) (pos 3)  -- 128
    ∷ NoGate 0 7 1 6  -- 129
    ∷ NoGate 1 7 3 5  -- 130
    ∷ NoGate 0 7 2 5  -- 131
    ∷ NoGate 2 7 3 6  -- 132
    ∷ NoGate 0 7 1 6  -- 133
    ∷ NoGate 1 2 0 3  -- 134
    ∷ NoGate 0 7 3 4  -- 135
    ∷ HasGate (pos 1) (pos 1) (pos 0) (pos 2)  -- 136
    ∷ NoGate 0 3 1 2  -- 137
    ∷ HasGate (pos 2) (pos 1) (negative 1) (pos 2)  -- 138
    ∷ NoGate 0 7 2 5  -- 139
    ∷ HasGate (pos 1) (pos 2) (negative 1) (pos 2)  -- 140
    ∷ NoGate 0 7 1 6  -- 141
    ∷ HasGate (pos 1) (pos 1) (negative 1) (pos 1)  -- 142
    ∷ HasGate (pos 1) (pos 1) (negative 2) (pos 0)  -- 143
    ∷ NoGate 4 7 5 6  -- 144
    ∷ NoGate 0 7 1 6  -- 145
    ∷ NoGate 1 4 0 5  -- 146
    ∷ NoGate 0 7 2 5  -- 147
    ∷ NoGate 2 4 0 6  -- 148
    ∷ NoGate 0 7 1 6  -- 149
    ∷ NoGate 1 2 0 3  -- 150
    ∷ NoGate 1 7 3 5  -- 151
    ∷ NoGate 3 4 1 6  -- 152
    ∷ NoGate 0 3 1 2  -- 153
    ∷ NoGate 1 4 0 5  -- 154
    ∷ NoGate 0 7 2 5  -- 155
    ∷ NoGate 2 4 0 6  -- 156
    ∷ NoGate 0 7 1 6  -- 157
    ∷ NoGate 1 4 0 5  -- 158
    ∷ NoGate 4 7 5 6  -- 159
    ∷ HasGate (pos 1) (pos 0) (pos 1) (pos 2)  -- 160
    ∷ NoGate 0 5 1 4  -- 161
    ∷ HasGate (pos 2) (negative 1) (pos 1) (pos 2)  -- 162
    ∷ NoGate 0 7 3 4  -- 163
    ∷ NoGate 2 5 1 6  -- 164
    ∷ NoGate 0 5 1 4  -- 165
    ∷ NoGate 1 2 0 3  -- 166
    ∷ NoGate 0 7 3 4  -- 167
    ∷ HasGate (pos 2) (pos 1) (pos 1) (pos 3)  -- 168
    ∷ NoGate 0 3 1 2  -- 169
    ∷ HasGate (pos 1) (pos 0) (pos 0) (pos 1)  -- 170
    ∷ HasGate (pos 2) (negative 1) (negative 1) (pos 0)  -- 171
    ∷ NoGate 2 5 1 6  -- 172
    ∷ NoGate 0 5 1 4  -- 173
    ∷ HasGate (pos 2) (pos 1) (negative 1) (pos 1)  -- 174
    ∷ HasGate (pos 1) (pos 0) (negative 1) (pos 0)  -- 175
    ∷ HasGate (pos 1) (negative 1) (pos 2) (pos 2)  -- 176
    ∷ NoGate 0 7 1 6  -- 177
    ∷ HasGate (pos 1) (negative 1) (pos 1) (pos 1)  -- 178
    ∷ HasGate (pos 1) (negative 2) (pos 1) (pos 0)  -- 179
    ∷ NoGate 2 4 0 6  -- 180
    ∷ NoGate 0 7 1 6  -- 181
    ∷ NoGate 1 2 0 3  -- 182
    ∷ NoGate 2 7 3 6  -- 183
    ∷ NoGate 3 4 1 6  -- 184
    ∷ NoGate 0 3 1 2  -- 185
    ∷ HasGate (pos 2) (negative 1) (pos 1) (pos 1)  -- 186
    ∷ HasGate (pos 1) (negative 1) (pos 0) (pos 0)  -- 187
    ∷ NoGate 2 4 0 6  -- 188
    ∷ NoGate 0 7 1 6  -- 189
    ∷ NoGate 2 4 0 6  -- 190
    ∷ HasGate (pos 1) (negative 1) (negative 1) (negative 1)  -- 191
    ∷ HasGate (pos 0) (pos 1) (pos 1) (pos 2)  -- 192
    ∷ NoGate 0 6 2 4  -- 193
    ∷ NoGate 1 6 2 5  -- 194
    ∷ NoGate 0 6 2 4  -- 195
    ∷ HasGate (negative 1) (pos 2) (pos 1) (pos 2)  -- 196
    ∷ NoGate 0 7 3 4  -- 197
    ∷ NoGate 1 2 0 3  -- 198
    ∷ NoGate 0 7 3 4  -- 199
    ∷ HasGate (pos 1) (pos 2) (pos 1) (pos 3)  -- 200
    ∷ NoGate 0 3 1 2  -- 201
    ∷ NoGate 1 6 2 5  -- 202
    ∷ NoGate 0 6 2 4  -- 203
    ∷ HasGate (pos 0) (pos 1) (pos 0) (pos 1)  -- 204
    ∷ HasGate (negative 1) (pos 2) (negative 1) (pos 0)  -- 205
    ∷ HasGate (pos 1) (pos 2) (negative 1) (pos 1)  -- 206
    ∷ HasGate (pos 0) (pos 1) (negative 1) (pos 0)  -- 207
    ∷ HasGate (negative 1) (pos 1) (pos 2) (pos 2)  -- 208
    ∷ NoGate 0 7 2 5  -- 209
    ∷ NoGate 1 4 0 5  -- 210
    ∷ NoGate 0 7 2 5  -- 211
    ∷ HasGate (negative 1) (pos 1) (pos 1) (pos 1)  -- 212
    ∷ HasGate (negative 2) (pos 1) (pos 1) (pos 0)  -- 213
    ∷ NoGate 1 2 0 3  -- 214
    ∷ NoGate 1 7 3 5  -- 215
    ∷ NoGate 3 4 2 5  -- 216
    ∷ NoGate 0 3 1 2  -- 217
    ∷ NoGate 1 4 0 5  -- 218
    ∷ NoGate 0 7 2 5  -- 219
    ∷ HasGate (negative 1) (pos 2) (pos 1) (pos 1)  -- 220
    ∷ HasGate (negative 1) (pos 1) (pos 0) (pos 0)  -- 221
    ∷ NoGate 1 4 0 5  -- 222
    ∷ HasGate (negative 1) (pos 1) (negative 1) (negative 1)  -- 223
    ∷ HasGate (pos 1) (pos 1) (pos 2) (pos 3)  -- 224
    ∷ NoGate 0 5 1 4  -- 225
    ∷ NoGate 1 6 3 4  -- 226
    ∷ NoGate 0 6 2 4  -- 227
    ∷ NoGate 2 5 3 4  -- 228
    ∷ NoGate 0 5 1 4  -- 229
    ∷ NoGate 1 2 0 3  -- 230
    ∷ NoGate 0 7 3 4  -- 231
    ∷ HasGate (pos 1) (pos 1) (pos 1) (pos 2)  -- 232
    ∷ NoGate 0 3 1 2  -- 233
    ∷ HasGate (pos 2) (pos 1) (pos 1) (pos 2)  -- 234
    ∷ NoGate 0 6 2 4  -- 235
    ∷ HasGate (pos 1) (pos 2) (pos 1) (pos 2)  -- 236
    ∷ NoGate 0 5 1 4  -- 237
    ∷ HasGate (pos 1) (pos 1) (pos 0) (pos 1)  -- 238
    ∷ HasGate (pos 1) (pos 1) (negative 1) (pos 0)  -- 239
    ∷ HasGate (pos 0) (pos 0) (pos 1) (pos 1)  -- 240
    ∷ HasGate (negative 1) (negative 1) (pos 2) (pos 0)  -- 241
    ∷ HasGate (pos 1) (negative 1) (pos 2) (pos 1)  -- 242
    ∷ HasGate (pos 0) (negative 1) (pos 1) (pos 0)  -- 243
    ∷ HasGate (negative 1) (pos 1) (pos 2) (pos 1)  -- 244
    ∷ HasGate (negative 1) (pos 0) (pos 1) (pos 0)  -- 245
    ∷ NoGate 1 2 0 3  -- 246
    ∷ HasGate (negative 1) (negative 1) (pos 1) (negative 1)  -- 247
    ∷ HasGate (pos 1) (pos 1) (pos 2) (pos 2)  -- 248
    ∷ NoGate 0 3 1 2  -- 249
    ∷ HasGate (pos 1) (pos 0) (pos 1) (pos 1)  -- 250
    ∷ HasGate (pos 1) (negative 1) (pos 1) (pos 0)  -- 251
    ∷ HasGate (pos 0) (pos 1) (pos 1) (pos 1)  -- 252
    ∷ HasGate (negative 1) (pos 1) (pos 1) (pos 0)  -- 253
    ∷ HasGate (pos 1) (pos 1) (pos 1) (pos 1)  -- 254
    ∷ HasGate (pos 0) (pos 0) (pos 0) (pos 0)  -- 255
    ∷ []

-- the entry of a truth table
unfoldable pub table_entry : ℕ → TableEntry
table_entry table = get_or table_entries table (NoGate 0 0 0 0)
