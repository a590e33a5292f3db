-- The marked cases hold because the definitions compute.
-- Each answer is computed from its extents and compared with what is due, all in one equation.
-- Assumes nothing.
use mathlib.Core.List.{map}
use mathlib.Core.Path.{◌≡◌, refl}
use Rattle.text.specs.Sector.{sectors_of, bytes_of}
use Rattle.text.specs.Utf8.{lead_of, tail_of, char_of}
use Rattle.text.specs.Blank.{blank}
use Rattle.text.specs.Text.{text_from, text_at, sound, drop_blanks, last_end, trim_text, trim_of, trimmed, run_text, run_of, word_of}
use Rattle.text.specs.Find.{find_from, find_at, same, begins, strip_of}
use Rattle.text.specs.Number.{all_digits, value, digits_of, digits_at, sign_of, number_of}
use Rattle.text.specs.Lines.{lines_of}
use Rattle.keys.specs.Key.{geometry_key, key_of}
use Rattle.lines.specs.Kept.{kept_at, kept_of, unquoted_of}
use Rattle.lines.specs.Extent.{second_of, third_of, three_words, file_name_of, file_start_of, flat_line, no_access_line, extent_line}
use Rattle.lines.specs.Line.{version_of, geometry_of, geometry_line, value_of, key_line, access_word, access_line, text_line, line_of}
use Rattle.descriptor.specs.Read.{set_of, sizes_from, checked, read_lines, read_of}
use Rattle.probing.specs.Probe.{probe_key, probe_line, probe_lines, probe_of}
use Rattle.lines.specs.Record.{filled, read_in, bare}
use Rattle.tables.specs.Build.{rows_from, build_of}
use Rattle.maps.specs.Map.{halve, sourced, in_row, search_of, map_of}
use Rattle.maps.specs.Place.{size_of, place_from, place_of}
use Rattle.maps.specs.Walk.{walk_from, walk_of}
use Rattle.theorems.specs.Maps.{rest_of}
use Rattle.theorems.specs.Tiling.{first_locked, met_from, met_by}
use Rattle.theorems.specs.Cases.{Case, cases, on_lines}

pub cases_due : map (λ (c : Case). c.got) cases ≡ map (λ (c : Case). c.due) cases
unfolding cases on_lines sectors_of lead_of tail_of char_of blank text_from text_at sound drop_blanks last_end trim_text trim_of trimmed run_text run_of word_of find_from find_at same begins strip_of all_digits value digits_of digits_at sign_of number_of lines_of geometry_key key_of kept_at kept_of unquoted_of second_of third_of three_words file_name_of file_start_of flat_line no_access_line extent_line version_of geometry_of geometry_line value_of key_line access_word access_line text_line line_of set_of sizes_from checked read_lines read_of probe_key probe_line probe_lines probe_of bytes_of filled read_in bare rows_from build_of halve sourced in_row search_of map_of size_of place_from place_of walk_from walk_of rest_of first_locked met_from met_by
cases_due = refl
