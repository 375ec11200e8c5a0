-- The spelling table (01, section 1): one row for each token number, in the order of token.rs, counted from 0.
use Rattle.std.specs.Prelude.{List, [], ◌∷◌, ℕ}
use Prim.Native.String.{String}
use Rattle.laws.specs.Text.{ascii}

-- what a number stands for: no token, a token with no fixed spelling, a token with one
pub data Row : Type 0 where
  unknown : Row
  bare : Row
  fixed : List ℕ → Row

abbrev spelled : String → Row
spelled s = fixed (ascii s)

unfoldable pub rows : List Row
rows =
    bare  -- 0 TK_EOF
    ∷ spelled ";"  -- 1 TK_SEMI
    ∷ spelled "EXPLAIN"  -- 2 TK_EXPLAIN
    ∷ spelled "QUERY"  -- 3 TK_QUERY
    ∷ spelled "PLAN"  -- 4 TK_PLAN
    ∷ spelled "BEGIN"  -- 5 TK_BEGIN
    ∷ spelled "TRANSACTION"  -- 6 TK_TRANSACTION
    ∷ spelled "DEFERRED"  -- 7 TK_DEFERRED
    ∷ spelled "IMMEDIATE"  -- 8 TK_IMMEDIATE
    ∷ spelled "EXCLUSIVE"  -- 9 TK_EXCLUSIVE
    ∷ spelled "COMMIT"  -- 10 TK_COMMIT
    ∷ spelled "END"  -- 11 TK_END
    ∷ spelled "ROLLBACK"  -- 12 TK_ROLLBACK
    ∷ spelled "SAVEPOINT"  -- 13 TK_SAVEPOINT
    ∷ spelled "RELEASE"  -- 14 TK_RELEASE
    ∷ spelled "TO"  -- 15 TK_TO
    ∷ spelled "TABLE"  -- 16 TK_TABLE
    ∷ spelled "CREATE"  -- 17 TK_CREATE
    ∷ spelled "IF"  -- 18 TK_IF
    ∷ spelled "NOT"  -- 19 TK_NOT
    ∷ spelled "EXISTS"  -- 20 TK_EXISTS
    ∷ spelled "TEMP"  -- 21 TK_TEMP
    ∷ spelled "("  -- 22 TK_LP
    ∷ spelled ")"  -- 23 TK_RP
    ∷ spelled "AS"  -- 24 TK_AS
    ∷ spelled ","  -- 25 TK_COMMA
    ∷ spelled "WITHOUT"  -- 26 TK_WITHOUT
    ∷ spelled "ABORT"  -- 27 TK_ABORT
    ∷ spelled "ACTION"  -- 28 TK_ACTION
    ∷ spelled "AFTER"  -- 29 TK_AFTER
    ∷ spelled "ANALYZE"  -- 30 TK_ANALYZE
    ∷ spelled "ASC"  -- 31 TK_ASC
    ∷ spelled "ATTACH"  -- 32 TK_ATTACH
    ∷ spelled "BEFORE"  -- 33 TK_BEFORE
    ∷ spelled "BY"  -- 34 TK_BY
    ∷ spelled "CASCADE"  -- 35 TK_CASCADE
    ∷ spelled "CAST"  -- 36 TK_CAST
    ∷ spelled "CONFLICT"  -- 37 TK_CONFLICT
    ∷ spelled "DATABASE"  -- 38 TK_DATABASE
    ∷ spelled "DESC"  -- 39 TK_DESC
    ∷ spelled "DETACH"  -- 40 TK_DETACH
    ∷ spelled "EACH"  -- 41 TK_EACH
    ∷ spelled "FAIL"  -- 42 TK_FAIL
    ∷ spelled "OR"  -- 43 TK_OR
    ∷ spelled "AND"  -- 44 TK_AND
    ∷ spelled "IS"  -- 45 TK_IS
    ∷ bare  -- 46 TK_ISNOT
    ∷ spelled "MATCH"  -- 47 TK_MATCH
    ∷ bare  -- 48 TK_LIKE_KW
    ∷ spelled "BETWEEN"  -- 49 TK_BETWEEN
    ∷ spelled "IN"  -- 50 TK_IN
    ∷ spelled "ISNULL"  -- 51 TK_ISNULL
    ∷ spelled "NOTNULL"  -- 52 TK_NOTNULL
    ∷ spelled "!="  -- 53 TK_NE
    ∷ spelled "="  -- 54 TK_EQ
    ∷ spelled ">"  -- 55 TK_GT
    ∷ spelled "<="  -- 56 TK_LE
    ∷ spelled "<"  -- 57 TK_LT
    ∷ spelled ">="  -- 58 TK_GE
    ∷ spelled "ESCAPE"  -- 59 TK_ESCAPE
    ∷ bare  -- 60 TK_ID
    ∷ spelled "COLUMN"  -- 61 TK_COLUMNKW
    ∷ spelled "DO"  -- 62 TK_DO
    ∷ spelled "FOR"  -- 63 TK_FOR
    ∷ spelled "IGNORE"  -- 64 TK_IGNORE
    ∷ spelled "INITIALLY"  -- 65 TK_INITIALLY
    ∷ spelled "INSTEAD"  -- 66 TK_INSTEAD
    ∷ spelled "NO"  -- 67 TK_NO
    ∷ spelled "KEY"  -- 68 TK_KEY
    ∷ spelled "OF"  -- 69 TK_OF
    ∷ spelled "OFFSET"  -- 70 TK_OFFSET
    ∷ spelled "PRAGMA"  -- 71 TK_PRAGMA
    ∷ spelled "RAISE"  -- 72 TK_RAISE
    ∷ spelled "RECURSIVE"  -- 73 TK_RECURSIVE
    ∷ spelled "REPLACE"  -- 74 TK_REPLACE
    ∷ spelled "RESTRICT"  -- 75 TK_RESTRICT
    ∷ spelled "ROW"  -- 76 TK_ROW
    ∷ spelled "ROWS"  -- 77 TK_ROWS
    ∷ spelled "TRIGGER"  -- 78 TK_TRIGGER
    ∷ spelled "VACUUM"  -- 79 TK_VACUUM
    ∷ spelled "VIEW"  -- 80 TK_VIEW
    ∷ spelled "VIRTUAL"  -- 81 TK_VIRTUAL
    ∷ spelled "WITH"  -- 82 TK_WITH
    ∷ spelled "NULLS"  -- 83 TK_NULLS
    ∷ spelled "FIRST"  -- 84 TK_FIRST
    ∷ spelled "LAST"  -- 85 TK_LAST
    ∷ spelled "CURRENT"  -- 86 TK_CURRENT
    ∷ spelled "FOLLOWING"  -- 87 TK_FOLLOWING
    ∷ spelled "PARTITION"  -- 88 TK_PARTITION
    ∷ spelled "PRECEDING"  -- 89 TK_PRECEDING
    ∷ spelled "RANGE"  -- 90 TK_RANGE
    ∷ spelled "UNBOUNDED"  -- 91 TK_UNBOUNDED
    ∷ spelled "EXCLUDE"  -- 92 TK_EXCLUDE
    ∷ spelled "GROUPS"  -- 93 TK_GROUPS
    ∷ spelled "OTHERS"  -- 94 TK_OTHERS
    ∷ spelled "TIES"  -- 95 TK_TIES
    ∷ spelled "GENERATED"  -- 96 TK_GENERATED
    ∷ spelled "ALWAYS"  -- 97 TK_ALWAYS
    ∷ spelled "MATERIALIZED"  -- 98 TK_MATERIALIZED
    ∷ spelled "REINDEX"  -- 99 TK_REINDEX
    ∷ spelled "RENAME"  -- 100 TK_RENAME
    ∷ bare  -- 101 TK_CTIME_KW
    ∷ bare  -- 102 TK_ANY
    ∷ spelled "&"  -- 103 TK_BITAND
    ∷ spelled "|"  -- 104 TK_BITOR
    ∷ spelled "<<"  -- 105 TK_LSHIFT
    ∷ spelled ">>"  -- 106 TK_RSHIFT
    ∷ spelled "+"  -- 107 TK_PLUS
    ∷ spelled "-"  -- 108 TK_MINUS
    ∷ spelled "*"  -- 109 TK_STAR
    ∷ spelled "/"  -- 110 TK_SLASH
    ∷ spelled "%"  -- 111 TK_REM
    ∷ spelled "||"  -- 112 TK_CONCAT
    ∷ bare  -- 113 TK_PTR
    ∷ spelled "COLLATE"  -- 114 TK_COLLATE
    ∷ spelled "~"  -- 115 TK_BITNOT
    ∷ spelled "ON"  -- 116 TK_ON
    ∷ spelled "INDEXED"  -- 117 TK_INDEXED
    ∷ bare  -- 118 TK_STRING
    ∷ bare  -- 119 TK_JOIN_KW
    ∷ spelled "CONSTRAINT"  -- 120 TK_CONSTRAINT
    ∷ spelled "DEFAULT"  -- 121 TK_DEFAULT
    ∷ spelled "NULL"  -- 122 TK_NULL
    ∷ spelled "PRIMARY"  -- 123 TK_PRIMARY
    ∷ spelled "UNIQUE"  -- 124 TK_UNIQUE
    ∷ spelled "CHECK"  -- 125 TK_CHECK
    ∷ spelled "REFERENCES"  -- 126 TK_REFERENCES
    ∷ spelled "AUTOINCREMENT"  -- 127 TK_AUTOINCR
    ∷ spelled "INSERT"  -- 128 TK_INSERT
    ∷ spelled "DELETE"  -- 129 TK_DELETE
    ∷ spelled "UPDATE"  -- 130 TK_UPDATE
    ∷ spelled "SET"  -- 131 TK_SET
    ∷ spelled "DEFERRABLE"  -- 132 TK_DEFERRABLE
    ∷ spelled "FOREIGN"  -- 133 TK_FOREIGN
    ∷ spelled "DROP"  -- 134 TK_DROP
    ∷ spelled "UNION"  -- 135 TK_UNION
    ∷ spelled "ALL"  -- 136 TK_ALL
    ∷ spelled "EXCEPT"  -- 137 TK_EXCEPT
    ∷ spelled "INTERSECT"  -- 138 TK_INTERSECT
    ∷ spelled "SELECT"  -- 139 TK_SELECT
    ∷ spelled "VALUES"  -- 140 TK_VALUES
    ∷ spelled "DISTINCT"  -- 141 TK_DISTINCT
    ∷ spelled "."  -- 142 TK_DOT
    ∷ spelled "FROM"  -- 143 TK_FROM
    ∷ spelled "JOIN"  -- 144 TK_JOIN
    ∷ spelled "USING"  -- 145 TK_USING
    ∷ spelled "ORDER"  -- 146 TK_ORDER
    ∷ spelled "GROUP"  -- 147 TK_GROUP
    ∷ spelled "HAVING"  -- 148 TK_HAVING
    ∷ spelled "LIMIT"  -- 149 TK_LIMIT
    ∷ spelled "WHERE"  -- 150 TK_WHERE
    ∷ spelled "RETURNING"  -- 151 TK_RETURNING
    ∷ spelled "INTO"  -- 152 TK_INTO
    ∷ spelled "NOTHING"  -- 153 TK_NOTHING
    ∷ bare  -- 154 TK_BLOB
    ∷ bare  -- 155 TK_FLOAT
    ∷ bare  -- 156 TK_INTEGER
    ∷ bare  -- 157 TK_VARIABLE
    ∷ spelled "CASE"  -- 158 TK_CASE
    ∷ spelled "WHEN"  -- 159 TK_WHEN
    ∷ spelled "THEN"  -- 160 TK_THEN
    ∷ spelled "ELSE"  -- 161 TK_ELSE
    ∷ spelled "INDEX"  -- 162 TK_INDEX
    ∷ spelled "ALTER"  -- 163 TK_ALTER
    ∷ spelled "ADD"  -- 164 TK_ADD
    ∷ spelled "WINDOW"  -- 165 TK_WINDOW
    ∷ spelled "OVER"  -- 166 TK_OVER
    ∷ spelled "FILTER"  -- 167 TK_FILTER
    ∷ spelled "WITHIN"  -- 168 TK_WITHIN
    ∷ unknown  -- 169
    ∷ unknown  -- 170
    ∷ unknown  -- 171
    ∷ unknown  -- 172
    ∷ unknown  -- 173
    ∷ unknown  -- 174
    ∷ unknown  -- 175
    ∷ unknown  -- 176
    ∷ unknown  -- 177
    ∷ unknown  -- 178
    ∷ unknown  -- 179
    ∷ unknown  -- 180
    ∷ unknown  -- 181
    ∷ unknown  -- 182
    ∷ unknown  -- 183
    ∷ unknown  -- 184
    ∷ bare  -- 185 TK_ILLEGAL
    ∷ spelled "CONCURRENT"  -- 186 TK_CONCURRENT
    ∷ spelled "OPTIMIZE"  -- 187 TK_OPTIMIZE
    ∷ spelled "TYPE"  -- 188 TK_TYPE
    ∷ spelled "["  -- 189 TK_LBRACKET
    ∷ spelled "]"  -- 190 TK_RBRACKET
    ∷ spelled ":"  -- 191 TK_COLON
    ∷ spelled "@>"  -- 192 TK_ARRAY_CONTAINS
    ∷ spelled "&&"  -- 193 TK_ARRAY_OVERLAP
    ∷ unknown  -- 194
    ∷ unknown  -- 195
    ∷ unknown  -- 196
    ∷ unknown  -- 197
    ∷ unknown  -- 198
    ∷ unknown  -- 199
    ∷ unknown  -- 200
    ∷ unknown  -- 201
    ∷ unknown  -- 202
    ∷ unknown  -- 203
    ∷ unknown  -- 204
    ∷ unknown  -- 205
    ∷ unknown  -- 206
    ∷ unknown  -- 207
    ∷ unknown  -- 208
    ∷ unknown  -- 209
    ∷ unknown  -- 210
    ∷ unknown  -- 211
    ∷ unknown  -- 212
    ∷ unknown  -- 213
    ∷ unknown  -- 214
    ∷ unknown  -- 215
    ∷ unknown  -- 216
    ∷ unknown  -- 217
    ∷ unknown  -- 218
    ∷ unknown  -- 219
    ∷ unknown  -- 220
    ∷ unknown  -- 221
    ∷ unknown  -- 222
    ∷ unknown  -- 223
    ∷ unknown  -- 224
    ∷ unknown  -- 225
    ∷ unknown  -- 226
    ∷ unknown  -- 227
    ∷ unknown  -- 228
    ∷ unknown  -- 229
    ∷ unknown  -- 230
    ∷ unknown  -- 231
    ∷ unknown  -- 232
    ∷ unknown  -- 233
    ∷ unknown  -- 234
    ∷ unknown  -- 235
    ∷ unknown  -- 236
    ∷ unknown  -- 237
    ∷ unknown  -- 238
    ∷ unknown  -- 239
    ∷ unknown  -- 240
    ∷ unknown  -- 241
    ∷ unknown  -- 242
    ∷ unknown  -- 243
    ∷ unknown  -- 244
    ∷ unknown  -- 245
    ∷ unknown  -- 246
    ∷ unknown  -- 247
    ∷ unknown  -- 248
    ∷ unknown  -- 249
    ∷ unknown  -- 250
    ∷ unknown  -- 251
    ∷ unknown  -- 252
    ∷ unknown  -- 253
    ∷ unknown  -- 254
    ∷ bare  -- 255 TK_NONE
    ∷ []
