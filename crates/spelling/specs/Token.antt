-- Token numbers by name, as token.rs gives them (reading R1).
use Rattle.std.specs.Prelude.{ℕ}

abbrev pub TK_EOF : ℕ
TK_EOF = 0

abbrev pub TK_SEMI : ℕ
TK_SEMI = 1

abbrev pub TK_EXPLAIN : ℕ
TK_EXPLAIN = 2

abbrev pub TK_QUERY : ℕ
TK_QUERY = 3

abbrev pub TK_PLAN : ℕ
TK_PLAN = 4

abbrev pub TK_BEGIN : ℕ
TK_BEGIN = 5

abbrev pub TK_TRANSACTION : ℕ
TK_TRANSACTION = 6

abbrev pub TK_DEFERRED : ℕ
TK_DEFERRED = 7

abbrev pub TK_IMMEDIATE : ℕ
TK_IMMEDIATE = 8

abbrev pub TK_EXCLUSIVE : ℕ
TK_EXCLUSIVE = 9

abbrev pub TK_COMMIT : ℕ
TK_COMMIT = 10

abbrev pub TK_END : ℕ
TK_END = 11

abbrev pub TK_ROLLBACK : ℕ
TK_ROLLBACK = 12

abbrev pub TK_SAVEPOINT : ℕ
TK_SAVEPOINT = 13

abbrev pub TK_RELEASE : ℕ
TK_RELEASE = 14

abbrev pub TK_TO : ℕ
TK_TO = 15

abbrev pub TK_TABLE : ℕ
TK_TABLE = 16

abbrev pub TK_CREATE : ℕ
TK_CREATE = 17

abbrev pub TK_IF : ℕ
TK_IF = 18

abbrev pub TK_NOT : ℕ
TK_NOT = 19

abbrev pub TK_EXISTS : ℕ
TK_EXISTS = 20

abbrev pub TK_TEMP : ℕ
TK_TEMP = 21

abbrev pub TK_LP : ℕ
TK_LP = 22

abbrev pub TK_RP : ℕ
TK_RP = 23

abbrev pub TK_AS : ℕ
TK_AS = 24

abbrev pub TK_COMMA : ℕ
TK_COMMA = 25

abbrev pub TK_WITHOUT : ℕ
TK_WITHOUT = 26

abbrev pub TK_ABORT : ℕ
TK_ABORT = 27

abbrev pub TK_ACTION : ℕ
TK_ACTION = 28

abbrev pub TK_AFTER : ℕ
TK_AFTER = 29

abbrev pub TK_ANALYZE : ℕ
TK_ANALYZE = 30

abbrev pub TK_ASC : ℕ
TK_ASC = 31

abbrev pub TK_ATTACH : ℕ
TK_ATTACH = 32

abbrev pub TK_BEFORE : ℕ
TK_BEFORE = 33

abbrev pub TK_BY : ℕ
TK_BY = 34

abbrev pub TK_CASCADE : ℕ
TK_CASCADE = 35

abbrev pub TK_CAST : ℕ
TK_CAST = 36

abbrev pub TK_CONFLICT : ℕ
TK_CONFLICT = 37

abbrev pub TK_DATABASE : ℕ
TK_DATABASE = 38

abbrev pub TK_DESC : ℕ
TK_DESC = 39

abbrev pub TK_DETACH : ℕ
TK_DETACH = 40

abbrev pub TK_EACH : ℕ
TK_EACH = 41

abbrev pub TK_FAIL : ℕ
TK_FAIL = 42

abbrev pub TK_OR : ℕ
TK_OR = 43

abbrev pub TK_AND : ℕ
TK_AND = 44

abbrev pub TK_IS : ℕ
TK_IS = 45

abbrev pub TK_ISNOT : ℕ
TK_ISNOT = 46

abbrev pub TK_MATCH : ℕ
TK_MATCH = 47

abbrev pub TK_LIKE_KW : ℕ
TK_LIKE_KW = 48

abbrev pub TK_BETWEEN : ℕ
TK_BETWEEN = 49

abbrev pub TK_IN : ℕ
TK_IN = 50

abbrev pub TK_ISNULL : ℕ
TK_ISNULL = 51

abbrev pub TK_NOTNULL : ℕ
TK_NOTNULL = 52

abbrev pub TK_NE : ℕ
TK_NE = 53

abbrev pub TK_EQ : ℕ
TK_EQ = 54

abbrev pub TK_GT : ℕ
TK_GT = 55

abbrev pub TK_LE : ℕ
TK_LE = 56

abbrev pub TK_LT : ℕ
TK_LT = 57

abbrev pub TK_GE : ℕ
TK_GE = 58

abbrev pub TK_ESCAPE : ℕ
TK_ESCAPE = 59

abbrev pub TK_ID : ℕ
TK_ID = 60

abbrev pub TK_COLUMNKW : ℕ
TK_COLUMNKW = 61

abbrev pub TK_DO : ℕ
TK_DO = 62

abbrev pub TK_FOR : ℕ
TK_FOR = 63

abbrev pub TK_IGNORE : ℕ
TK_IGNORE = 64

abbrev pub TK_INITIALLY : ℕ
TK_INITIALLY = 65

abbrev pub TK_INSTEAD : ℕ
TK_INSTEAD = 66

abbrev pub TK_NO : ℕ
TK_NO = 67

abbrev pub TK_KEY : ℕ
TK_KEY = 68

abbrev pub TK_OF : ℕ
TK_OF = 69

abbrev pub TK_OFFSET : ℕ
TK_OFFSET = 70

abbrev pub TK_PRAGMA : ℕ
TK_PRAGMA = 71

abbrev pub TK_RAISE : ℕ
TK_RAISE = 72

abbrev pub TK_RECURSIVE : ℕ
TK_RECURSIVE = 73

abbrev pub TK_REPLACE : ℕ
TK_REPLACE = 74

abbrev pub TK_RESTRICT : ℕ
TK_RESTRICT = 75

abbrev pub TK_ROW : ℕ
TK_ROW = 76

abbrev pub TK_ROWS : ℕ
TK_ROWS = 77

abbrev pub TK_TRIGGER : ℕ
TK_TRIGGER = 78

abbrev pub TK_VACUUM : ℕ
TK_VACUUM = 79

abbrev pub TK_VIEW : ℕ
TK_VIEW = 80

abbrev pub TK_VIRTUAL : ℕ
TK_VIRTUAL = 81

abbrev pub TK_WITH : ℕ
TK_WITH = 82

abbrev pub TK_NULLS : ℕ
TK_NULLS = 83

abbrev pub TK_FIRST : ℕ
TK_FIRST = 84

abbrev pub TK_LAST : ℕ
TK_LAST = 85

abbrev pub TK_CURRENT : ℕ
TK_CURRENT = 86

abbrev pub TK_FOLLOWING : ℕ
TK_FOLLOWING = 87

abbrev pub TK_PARTITION : ℕ
TK_PARTITION = 88

abbrev pub TK_PRECEDING : ℕ
TK_PRECEDING = 89

abbrev pub TK_RANGE : ℕ
TK_RANGE = 90

abbrev pub TK_UNBOUNDED : ℕ
TK_UNBOUNDED = 91

abbrev pub TK_EXCLUDE : ℕ
TK_EXCLUDE = 92

abbrev pub TK_GROUPS : ℕ
TK_GROUPS = 93

abbrev pub TK_OTHERS : ℕ
TK_OTHERS = 94

abbrev pub TK_TIES : ℕ
TK_TIES = 95

abbrev pub TK_GENERATED : ℕ
TK_GENERATED = 96

abbrev pub TK_ALWAYS : ℕ
TK_ALWAYS = 97

abbrev pub TK_MATERIALIZED : ℕ
TK_MATERIALIZED = 98

abbrev pub TK_REINDEX : ℕ
TK_REINDEX = 99

abbrev pub TK_RENAME : ℕ
TK_RENAME = 100

abbrev pub TK_CTIME_KW : ℕ
TK_CTIME_KW = 101

abbrev pub TK_ANY : ℕ
TK_ANY = 102

abbrev pub TK_BITAND : ℕ
TK_BITAND = 103

abbrev pub TK_BITOR : ℕ
TK_BITOR = 104

abbrev pub TK_LSHIFT : ℕ
TK_LSHIFT = 105

abbrev pub TK_RSHIFT : ℕ
TK_RSHIFT = 106

abbrev pub TK_PLUS : ℕ
TK_PLUS = 107

abbrev pub TK_MINUS : ℕ
TK_MINUS = 108

abbrev pub TK_STAR : ℕ
TK_STAR = 109

abbrev pub TK_SLASH : ℕ
TK_SLASH = 110

abbrev pub TK_REM : ℕ
TK_REM = 111

abbrev pub TK_CONCAT : ℕ
TK_CONCAT = 112

abbrev pub TK_PTR : ℕ
TK_PTR = 113

abbrev pub TK_COLLATE : ℕ
TK_COLLATE = 114

abbrev pub TK_BITNOT : ℕ
TK_BITNOT = 115

abbrev pub TK_ON : ℕ
TK_ON = 116

abbrev pub TK_INDEXED : ℕ
TK_INDEXED = 117

abbrev pub TK_STRING : ℕ
TK_STRING = 118

abbrev pub TK_JOIN_KW : ℕ
TK_JOIN_KW = 119

abbrev pub TK_CONSTRAINT : ℕ
TK_CONSTRAINT = 120

abbrev pub TK_DEFAULT : ℕ
TK_DEFAULT = 121

abbrev pub TK_NULL : ℕ
TK_NULL = 122

abbrev pub TK_PRIMARY : ℕ
TK_PRIMARY = 123

abbrev pub TK_UNIQUE : ℕ
TK_UNIQUE = 124

abbrev pub TK_CHECK : ℕ
TK_CHECK = 125

abbrev pub TK_REFERENCES : ℕ
TK_REFERENCES = 126

abbrev pub TK_AUTOINCR : ℕ
TK_AUTOINCR = 127

abbrev pub TK_INSERT : ℕ
TK_INSERT = 128

abbrev pub TK_DELETE : ℕ
TK_DELETE = 129

abbrev pub TK_UPDATE : ℕ
TK_UPDATE = 130

abbrev pub TK_SET : ℕ
TK_SET = 131

abbrev pub TK_DEFERRABLE : ℕ
TK_DEFERRABLE = 132

abbrev pub TK_FOREIGN : ℕ
TK_FOREIGN = 133

abbrev pub TK_DROP : ℕ
TK_DROP = 134

abbrev pub TK_UNION : ℕ
TK_UNION = 135

abbrev pub TK_ALL : ℕ
TK_ALL = 136

abbrev pub TK_EXCEPT : ℕ
TK_EXCEPT = 137

abbrev pub TK_INTERSECT : ℕ
TK_INTERSECT = 138

abbrev pub TK_SELECT : ℕ
TK_SELECT = 139

abbrev pub TK_VALUES : ℕ
TK_VALUES = 140

abbrev pub TK_DISTINCT : ℕ
TK_DISTINCT = 141

abbrev pub TK_DOT : ℕ
TK_DOT = 142

abbrev pub TK_FROM : ℕ
TK_FROM = 143

abbrev pub TK_JOIN : ℕ
TK_JOIN = 144

abbrev pub TK_USING : ℕ
TK_USING = 145

abbrev pub TK_ORDER : ℕ
TK_ORDER = 146

abbrev pub TK_GROUP : ℕ
TK_GROUP = 147

abbrev pub TK_HAVING : ℕ
TK_HAVING = 148

abbrev pub TK_LIMIT : ℕ
TK_LIMIT = 149

abbrev pub TK_WHERE : ℕ
TK_WHERE = 150

abbrev pub TK_RETURNING : ℕ
TK_RETURNING = 151

abbrev pub TK_INTO : ℕ
TK_INTO = 152

abbrev pub TK_NOTHING : ℕ
TK_NOTHING = 153

abbrev pub TK_BLOB : ℕ
TK_BLOB = 154

abbrev pub TK_FLOAT : ℕ
TK_FLOAT = 155

abbrev pub TK_INTEGER : ℕ
TK_INTEGER = 156

abbrev pub TK_VARIABLE : ℕ
TK_VARIABLE = 157

abbrev pub TK_CASE : ℕ
TK_CASE = 158

abbrev pub TK_WHEN : ℕ
TK_WHEN = 159

abbrev pub TK_THEN : ℕ
TK_THEN = 160

abbrev pub TK_ELSE : ℕ
TK_ELSE = 161

abbrev pub TK_INDEX : ℕ
TK_INDEX = 162

abbrev pub TK_ALTER : ℕ
TK_ALTER = 163

abbrev pub TK_ADD : ℕ
TK_ADD = 164

abbrev pub TK_WINDOW : ℕ
TK_WINDOW = 165

abbrev pub TK_OVER : ℕ
TK_OVER = 166

abbrev pub TK_FILTER : ℕ
TK_FILTER = 167

abbrev pub TK_WITHIN : ℕ
TK_WITHIN = 168

abbrev pub TK_ILLEGAL : ℕ
TK_ILLEGAL = 185

abbrev pub TK_CONCURRENT : ℕ
TK_CONCURRENT = 186

abbrev pub TK_OPTIMIZE : ℕ
TK_OPTIMIZE = 187

abbrev pub TK_TYPE : ℕ
TK_TYPE = 188

abbrev pub TK_LBRACKET : ℕ
TK_LBRACKET = 189

abbrev pub TK_RBRACKET : ℕ
TK_RBRACKET = 190

abbrev pub TK_COLON : ℕ
TK_COLON = 191

abbrev pub TK_ARRAY_CONTAINS : ℕ
TK_ARRAY_CONTAINS = 192

abbrev pub TK_ARRAY_OVERLAP : ℕ
TK_ARRAY_OVERLAP = 193

abbrev pub TK_NONE : ℕ
TK_NONE = 255
