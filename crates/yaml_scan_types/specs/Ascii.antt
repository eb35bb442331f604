-- The characters that have a meaning of their own, by name; letters of escapes and directives, and ends of ranges.
use Rattle.std.specs.Prelude.{ℕ}

abbrev pub null : ℕ
null = 0

abbrev pub bell : ℕ
bell = 7

abbrev pub backspace : ℕ
backspace = 8

abbrev pub tab : ℕ
tab = 9

abbrev pub line_feed : ℕ
line_feed = 10

abbrev pub vertical_tab : ℕ
vertical_tab = 11

abbrev pub form_feed : ℕ
form_feed = 12

abbrev pub carriage_return : ℕ
carriage_return = 13

abbrev pub escape : ℕ
escape = 27

-- the last one before those that are printed
abbrev pub unit_separator : ℕ
unit_separator = 31

abbrev pub space : ℕ
space = 32

abbrev pub exclamation : ℕ
exclamation = 33

abbrev pub quote : ℕ
quote = 34

abbrev pub hash : ℕ
hash = 35

abbrev pub dollar : ℕ
dollar = 36

abbrev pub percent : ℕ
percent = 37

abbrev pub ampersand : ℕ
ampersand = 38

abbrev pub apostrophe : ℕ
apostrophe = 39

abbrev pub open_paren : ℕ
open_paren = 40

abbrev pub close_paren : ℕ
close_paren = 41

abbrev pub asterisk : ℕ
asterisk = 42

abbrev pub plus : ℕ
plus = 43

abbrev pub comma : ℕ
comma = 44

abbrev pub hyphen : ℕ
hyphen = 45

abbrev pub dot : ℕ
dot = 46

abbrev pub slash : ℕ
slash = 47

abbrev pub digit_zero : ℕ
digit_zero = 48

abbrev pub digit_two : ℕ
digit_two = 50

abbrev pub digit_nine : ℕ
digit_nine = 57

abbrev pub colon : ℕ
colon = 58

abbrev pub semicolon : ℕ
semicolon = 59

abbrev pub less : ℕ
less = 60

abbrev pub equals : ℕ
equals = 61

abbrev pub greater : ℕ
greater = 62

abbrev pub question : ℕ
question = 63

abbrev pub at : ℕ
at = 64

abbrev pub capital_a : ℕ
capital_a = 65

abbrev pub capital_e : ℕ
capital_e = 69

abbrev pub capital_f : ℕ
capital_f = 70

abbrev pub capital_g : ℕ
capital_g = 71

abbrev pub capital_l : ℕ
capital_l = 76

abbrev pub capital_m : ℕ
capital_m = 77

abbrev pub capital_n : ℕ
capital_n = 78

abbrev pub capital_p : ℕ
capital_p = 80

abbrev pub capital_t : ℕ
capital_t = 84

abbrev pub capital_u : ℕ
capital_u = 85

abbrev pub capital_y : ℕ
capital_y = 89

abbrev pub capital_z : ℕ
capital_z = 90

abbrev pub open_bracket : ℕ
open_bracket = 91

abbrev pub backslash : ℕ
backslash = 92

abbrev pub close_bracket : ℕ
close_bracket = 93

abbrev pub caret : ℕ
caret = 94

abbrev pub underscore : ℕ
underscore = 95

abbrev pub grave : ℕ
grave = 96

abbrev pub small_a : ℕ
small_a = 97

abbrev pub small_b : ℕ
small_b = 98

abbrev pub small_e : ℕ
small_e = 101

abbrev pub small_f : ℕ
small_f = 102

abbrev pub small_n : ℕ
small_n = 110

abbrev pub small_r : ℕ
small_r = 114

abbrev pub small_t : ℕ
small_t = 116

abbrev pub small_u : ℕ
small_u = 117

abbrev pub small_v : ℕ
small_v = 118

abbrev pub small_x : ℕ
small_x = 120

abbrev pub small_z : ℕ
small_z = 122

abbrev pub open_brace : ℕ
open_brace = 123

abbrev pub bar : ℕ
bar = 124

abbrev pub close_brace : ℕ
close_brace = 125

abbrev pub tilde : ℕ
tilde = 126

abbrev pub delete : ℕ
delete = 127

-- ---- hexadecimal digits: what a letter's code is more than its value

abbrev pub capital_digit : ℕ
capital_digit = 55

abbrev pub small_digit : ℕ
small_digit = 87
