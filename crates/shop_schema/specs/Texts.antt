-- The texts by which tables are made.
use Rattle.std.specs.Prelude.{ℕ, List, ◌++◌, codes, take, drop}
use Rattle.shop_schema.specs.declared.form.ShopTable.{ShopTable}
use Rattle.shop_schema.specs.Form.{name_of}

-- How the text of a table begins, with nothing else between the words.
abbrev pub head_of : ShopTable → List ℕ
head_of table = codes "CREATE TABLE " ++ name_of table ++ codes " ("

-- The text by which an older program made the same: with three words more behind the first two, which are 13 bytes with their
-- blanks.
abbrev pub old_text : List ℕ → List ℕ
old_text plain = take 13 plain ++ codes "IF NOT EXISTS " ++ drop 13 plain
