-- The places at the joints hold because the definitions compute.
-- Each is computed from the bytes of the descriptor and compared with what is due, all in one equation.
use Rattle.std.specs.Prelude.{Ok}
use mathlib.Core.List.{map}
use mathlib.Core.Path.{◌≡◌, refl}
use Rattle.text.specs.Sector.{sectors_of, bytes_of}
use Rattle.text.specs.Utf8.{lead_of, tail_of, char_of}
use Rattle.text.specs.Blank.{blank}
use Rattle.text.specs.Text.{text_from, text_at, sound, drop_blanks, last_end, trim_text, trim_of, trimmed, run_text, run_of, word_of}
use Rattle.text.specs.Find.{find_from, find_at, same, begins}
use Rattle.text.specs.Number.{all_digits, value, digits_of, digits_at, sign_of, number_of}
use Rattle.text.specs.Lines.{lines_of, join_lines}
use Rattle.keys.specs.Key.{key_of}
use Rattle.lines.specs.Record.{filled, read_in, bare}
use Rattle.lines.specs.Kept.{kept_at, kept_of}
use Rattle.lines.specs.Extent.{second_of, third_of, three_words, file_name_of, file_start_of, flat_line, no_access_line, extent_line}
use Rattle.lines.specs.Line.{version_of, value_of, key_line, access_word, access_line, text_line, line_of}
use Rattle.descriptor.specs.Read.{set_of, sizes_from, checked, read_lines, read_of}
use Rattle.tables.specs.Build.{rows_from, build_of}
use Rattle.theorems.specs.NamedPlaces.{up_to, behind, in_quotes, place_by, place_in}
use Rattle.theorems.specs.NamedCases.{joined, Joint, joints}

pub joints_due : ((read_of joined).verdict ≡ (Ok tt)) × ((build_of (read_of joined).descriptor).verdict ≡ (Ok tt)) × (map (λ (j : Joint). place_in joined j.byte) joints ≡ map (λ (j : Joint). j.due) joints)
unfolding sectors_of lead_of tail_of char_of blank text_from text_at sound drop_blanks last_end trim_text trim_of trimmed run_text run_of word_of find_from find_at same begins all_digits value digits_of digits_at sign_of number_of lines_of join_lines key_of kept_at kept_of second_of third_of three_words file_name_of file_start_of flat_line no_access_line extent_line version_of value_of key_line access_word access_line text_line line_of set_of sizes_from checked read_lines read_of up_to behind in_quotes place_by place_in bytes_of filled read_in bare rows_from build_of
joints_due = (refl, refl, refl)
