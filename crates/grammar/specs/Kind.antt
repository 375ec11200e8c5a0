-- 01, section 2: the kinds of records by name. Stmt variants and clauses are named as in fmt.rs; SelectStmt is the statement, Select the clause.
use Rattle.std.specs.Prelude.{ℕ}

abbrev pub NONE : ℕ
NONE = 0

abbrev pub LIST : ℕ
LIST = 1

abbrev pub TOKEN : ℕ
TOKEN = 2

abbrev pub RUN : ℕ
RUN = 3

abbrev pub TEXT : ℕ
TEXT = 4

abbrev pub NUMBER : ℕ
NUMBER = 5

abbrev pub Cmd : ℕ
Cmd = 10

abbrev pub AlterTable : ℕ
AlterTable = 32

abbrev pub Analyze : ℕ
Analyze = 33

abbrev pub Attach : ℕ
Attach = 34

abbrev pub Begin : ℕ
Begin = 35

abbrev pub Commit : ℕ
Commit = 36

abbrev pub CreateIndex : ℕ
CreateIndex = 37

abbrev pub CreateTable : ℕ
CreateTable = 38

abbrev pub CreateTrigger : ℕ
CreateTrigger = 39

abbrev pub CreateView : ℕ
CreateView = 40

abbrev pub CreateMaterializedView : ℕ
CreateMaterializedView = 41

abbrev pub CreateVirtualTable : ℕ
CreateVirtualTable = 42

abbrev pub Delete : ℕ
Delete = 43

abbrev pub Detach : ℕ
Detach = 44

abbrev pub DropIndex : ℕ
DropIndex = 45

abbrev pub DropTable : ℕ
DropTable = 46

abbrev pub DropTrigger : ℕ
DropTrigger = 47

abbrev pub DropView : ℕ
DropView = 48

abbrev pub Insert : ℕ
Insert = 49

abbrev pub Pragma : ℕ
Pragma = 50

abbrev pub Reindex : ℕ
Reindex = 51

abbrev pub Optimize : ℕ
Optimize = 52

abbrev pub Release : ℕ
Release = 53

abbrev pub Rollback : ℕ
Rollback = 54

abbrev pub Savepoint : ℕ
Savepoint = 55

abbrev pub SelectStmt : ℕ
SelectStmt = 56

abbrev pub Update : ℕ
Update = 57

abbrev pub Vacuum : ℕ
Vacuum = 58

abbrev pub CreateType : ℕ
CreateType = 59

abbrev pub CreateDomain : ℕ
CreateDomain = 60

abbrev pub DropType : ℕ
DropType = 61

abbrev pub CreateSequence : ℕ
CreateSequence = 62

abbrev pub DropSequence : ℕ
DropSequence = 63

abbrev pub DropDomain : ℕ
DropDomain = 64

abbrev pub Select : ℕ
Select = 80

abbrev pub SelectBody : ℕ
SelectBody = 81

abbrev pub CompoundSelect : ℕ
CompoundSelect = 82

abbrev pub OneSelect : ℕ
OneSelect = 83

abbrev pub Values : ℕ
Values = 84

abbrev pub FromClause : ℕ
FromClause = 85

abbrev pub JoinedTable : ℕ
JoinedTable = 86

abbrev pub Table : ℕ
Table = 87

abbrev pub TableCall : ℕ
TableCall = 88

abbrev pub TableSelect : ℕ
TableSelect = 89

abbrev pub Sub : ℕ
Sub = 90

abbrev pub On : ℕ
On = 91

abbrev pub Using : ℕ
Using = 92

abbrev pub RenameTo : ℕ
RenameTo = 93

abbrev pub AddColumn : ℕ
AddColumn = 94

abbrev pub AlterColumn : ℕ
AlterColumn = 95

abbrev pub RenameColumn : ℕ
RenameColumn = 96

abbrev pub DropColumn : ℕ
DropColumn = 97

abbrev pub ColumnsAndConstraints : ℕ
ColumnsAndConstraints = 98

abbrev pub AsSelect : ℕ
AsSelect = 99

abbrev pub ColumnDefinition : ℕ
ColumnDefinition = 100

abbrev pub PrimaryKey : ℕ
PrimaryKey = 101

abbrev pub Unique : ℕ
Unique = 102

abbrev pub Check : ℕ
Check = 103

abbrev pub ForeignKey : ℕ
ForeignKey = 104

abbrev pub ForeignKeyClause : ℕ
ForeignKeyClause = 105

abbrev pub CommonTableExpr : ℕ
CommonTableExpr = 106

abbrev pub TypeName : ℕ
TypeName = 107

abbrev pub UpsertSet : ℕ
UpsertSet = 108

abbrev pub UpsertNothing : ℕ
UpsertNothing = 109

abbrev pub With : ℕ
With = 110

abbrev pub Struct : ℕ
Struct = 111

abbrev pub Union : ℕ
Union = 112

abbrev pub CustomType : ℕ
CustomType = 113

abbrev pub TypeField : ℕ
TypeField = 114

abbrev pub TypeParam : ℕ
TypeParam = 115

abbrev pub OperatorClause : ℕ
OperatorClause = 116

abbrev pub DomainConstraint : ℕ
DomainConstraint = 117

abbrev pub Pair : ℕ
Pair = 118

abbrev pub REPLACE : ℕ
REPLACE = 119

abbrev pub NamedTableConstraint : ℕ
NamedTableConstraint = 120
