-- The numbers of documents 01 and 02, each once for what it limits; those that the papers derive from others are derived here too. (Refusals 14, 16, 18 and 19 are named in
-- Verdict, Reasons, Hours and Week, and the two outer trials are counted in Bisection.)
use Rattle.std.specs.Prelude.{ℕ, suc, ◌+◌, ◌*◌, ◌-◌, ℤ, pos, negsuc}

-- The highest n (moments besides the anchor) and the highest m (rules).
abbrev pub highest_n : ℕ
highest_n = 31

abbrev pub highest_m : ℕ
highest_m = 63

-- A lead is blank or within this of 0.
abbrev pub lead_limit : ℕ
lead_limit = 20160

-- The limit of spans: two leads for each of 32 variables, 1,290,240.
abbrev pub span_limit : ℕ
span_limit = 2 * suc highest_n * lead_limit

-- Document 02, 2.4: a stamp is blank or within this of 0.
abbrev pub stamp_limit : ℕ
stamp_limit = 6000000

-- The two outer trials: 1,290,240 and −1,290,241.
abbrev pub top_trial : ℤ
top_trial = pos span_limit

abbrev pub lowest_trial : ℤ
lowest_trial = negsuc span_limit

-- The most trials that an answer takes.
abbrev pub most_trials : ℕ
most_trials = 24

-- A byte is below this; fields of 2 and of 4 bytes are below its powers.
abbrev pub byte_values : ℕ
byte_values = 256

abbrev pub short_full : ℕ
short_full = byte_values * byte_values

-- The size of a length field, and of the fields of 2 bytes and of 4 bytes.
abbrev pub length_bytes : ℕ
length_bytes = 4

abbrev pub short_bytes : ℕ
short_bytes = 2

abbrev pub signed_bytes : ℕ
signed_bytes = 4

-- 2³¹ and 2³²: a signed field below the first stands for itself, from there on for itself less the second.
abbrev pub signed_half : ℕ
signed_half = 2147483648

abbrev pub signed_full : ℕ
signed_full = 2 * signed_half

-- Places in a record's header: the length, the kind, n; then m of a problem, or class, span and start (document 02, 2.4) of an answer.
abbrev pub kind_place : ℕ
kind_place = length_bytes

abbrev pub n_place : ℕ
n_place = kind_place + short_bytes

abbrev pub m_place : ℕ
m_place = n_place + short_bytes

abbrev pub class_place : ℕ
class_place = n_place + short_bytes

abbrev pub span_place : ℕ
span_place = class_place + short_bytes

abbrev pub start_place : ℕ
start_place = span_place + signed_bytes

-- Kinds of records: problems of one question, and answers (document 02, 2.4).
abbrev pub problem_kind : ℕ
problem_kind = 1

abbrev pub answer_kind : ℕ
answer_kind = 4

-- Document 02, 2.1: a problem of several questions, and the most of them.
abbrev pub questions_kind : ℕ
questions_kind = 3

abbrev pub most_questions : ℕ
most_questions = 8

-- Document 02, 2.10: a problem with suspended rules, and the states of a rule: in force, suspended.
abbrev pub states_kind : ℕ
states_kind = 5

abbrev pub state_in_force : ℕ
state_in_force = 1

abbrev pub state_suspended : ℕ
state_suspended = 0

-- Classes of answers: least, bottomless, none.
abbrev pub class_optimal : ℕ
class_optimal = 1

abbrev pub class_unbounded : ℕ
class_unbounded = 2

abbrev pub class_infeasible : ℕ
class_infeasible = 3

-- The bytes of a problem of kind 1 before its leads, 10, and of an answer before its stamps and picks, 16.
abbrev pub problem_header : ℕ
problem_header = m_place + short_bytes

abbrev pub answer_header : ℕ
answer_header = start_place + short_bytes

-- Document 02, 2.1: a problem of kind 3 has the count of its questions after m, so that its leads start at 12.
abbrev pub count_place : ℕ
count_place = m_place + short_bytes

abbrev pub questions_header : ℕ
questions_header = count_place + short_bytes

-- Document 02, 2.10: a problem of kind 5 has the states of its rules after m.
abbrev pub states_place : ℕ
states_place = m_place + short_bytes

-- The largest answer record, 208 bytes: n = 31, class 1. An answer buffer shorter than that for each question is refused, whichever class is due.
abbrev pub answer_most : ℕ
answer_most = answer_header + (signed_bytes + short_bytes) * suc highest_n

-- Tables of a problem: as many columns as it has variables at most, 32, and as many rows as it has rules and the question at most,
-- 64; the elements of a table, 2,048, and those of a table of arcs between variables, 1,024.
abbrev pub stride : ℕ
stride = suc highest_n

abbrev pub table_rows : ℕ
table_rows = suc highest_m

abbrev pub table_size : ℕ
table_size = table_rows * stride

abbrev pub arcs_size : ℕ
arcs_size = stride * stride

-- Of a problem of kind 1: the most leads, 4,096, the place of its last row, 16,138, and the largest record, 16,394 bytes.
abbrev pub leads_most : ℕ
leads_most = 2 * table_size

abbrev pub last_row : ℕ
last_row = problem_header + 2 * signed_bytes * (highest_m * stride)

abbrev pub problem_most : ℕ
problem_most = problem_header + signed_bytes * leads_most

-- The most leads of a record of several questions, 4,544, and where these end behind ten bytes, 18,186 (in the record they start two
-- bytes later).
abbrev pub questions_leads : ℕ
questions_leads = 2 * (stride * (highest_m + most_questions))

abbrev pub questions_row : ℕ
questions_row = problem_header + signed_bytes * questions_leads

-- Where the leads of a record start at the latest: kind 5 with 63 rules, at 136.
abbrev pub leads_latest : ℕ
leads_latest = states_place + short_bytes * highest_m

-- The largest record of kind 5, 16,520 bytes.
abbrev pub states_most : ℕ
states_most = leads_latest + signed_bytes * leads_most

-- How many bytes of their input the programs keep.
abbrev pub kept_bytes : ℕ
kept_bytes = 20000

-- 2⁶⁴, the machine's: a number that is handed to an entry, and the length of a slice, are below it.
abbrev pub word_values : ℕ
word_values = 18446744073709551616

-- 2⁶³: a signed number of 64 bits, handed over as the unsigned one with the same bits, stands for itself below it, from there on for
-- itself less 2⁶⁴.
abbrev pub word_half : ℕ
word_half = 9223372036854775808

-- Document 02, 2.7: a span or stamp has a text if it is blank or within this of 0, ±6,000,000.
abbrev pub text_limit : ℕ
text_limit = 6000000

-- A buffer of fewer bytes than the longest text, 10, is refused, whatever the value.
abbrev pub text_most : ℕ
text_most = 10

-- Minutes on the sheet are below this, the minutes of an hour, 60.
abbrev pub hour_minutes : ℕ
hour_minutes = 60

-- Document 02, 2.8: the minutes of a week (closing minutes go to 10,080) and the most windows of a week list.
abbrev pub week_minutes : ℕ
week_minutes = 10080

abbrev pub most_windows : ℕ
most_windows = 14

-- Document 02, 2.8: "a minute to be looked up beyond ±6,000,000".
abbrev pub minute_limit : ℕ
minute_limit = 6000000

-- Document 02, 2.11: the desk's places, the memory that it asks for (16 problems of 16,394 bytes), the last ticket, 2⁶⁴ − 1, and
-- the most steps after which a problem is answered, 384.
abbrev pub desk_places : ℕ
desk_places = 16

abbrev pub desk_memory : ℕ
desk_memory = desk_places * problem_most

abbrev pub last_ticket : ℕ
last_ticket = word_values - 1

abbrev pub desk_steps : ℕ
desk_steps = desk_places * most_trials

-- Document 02, 2.13: a buffer of fewer bytes than the stamps of 32 moments, 128, is refused, whatever n is.
abbrev pub merged_most : ℕ
merged_most = signed_bytes * stride

-- ---- refusals, as document 01 counts them under "What is turned away" and document 02 goes on

-- The problem has fewer than 10 bytes; of no bytes only where they do not mean the idle day (2.9).
abbrev pub refused_short : ℕ
refused_short = 1

-- Its length field is not its size − 4.
abbrev pub refused_length : ℕ
refused_length = 2

-- Its kind is not one that the entry knows.
abbrev pub refused_kind : ℕ
refused_kind = 3

-- n is above 31 or m above 63.
abbrev pub refused_limits : ℕ
refused_limits = 4

-- Its size does not fit its kind, n and m, and of kind 3 its count.
abbrev pub refused_size : ℕ
refused_size = 5

-- A lead is neither blank nor within ±20,160.
abbrev pub refused_lead : ℕ
refused_lead = 6

-- Document 02, 2.1: the count of questions is 0 or above 8.
abbrev pub refused_count : ℕ
refused_count = 15

-- Document 02, 2.10: a state other than 0 or 1.
abbrev pub refused_state : ℕ
refused_state = 20

-- Document 02, 2.6: a rule has an all-blank left list.
abbrev pub refused_silent : ℕ
refused_silent = 17

-- The answer buffer is shorter than 208 bytes, in the engine than 208 for each question, whichever class is due; in the converter the
-- buffer is shorter than the record to be written, in merging than 128 bytes.
abbrev pub refused_room : ℕ
refused_room = 7

-- The answer has fewer than 16 bytes.
abbrev pub refused_answer_short : ℕ
refused_answer_short = 8

-- Its length field is not its size − 4.
abbrev pub refused_answer_length : ℕ
refused_answer_length = 9

-- Its kind is not 4, its class not 1 to 3, or its start none of its class.
abbrev pub refused_answer_class : ℕ
refused_answer_class = 10

-- Its n is not the problem's, or its size does not fit its class.
abbrev pub refused_answer_size : ℕ
refused_answer_size = 11

-- Its span or a stamp is outside the form of its class; in merging a plan is not n + 1 stamps of the form of class 1.
abbrev pub refused_form : ℕ
refused_form = 12

-- A pick is above its highest value.
abbrev pub refused_pick : ℕ
refused_pick = 13

-- Document 02, 2.11: all 16 places hold a waiting or uncollected problem, or the tickets are used up.
abbrev pub refused_full : ℕ
refused_full = 21

-- No such ticket is held.
abbrev pub refused_ticket : ℕ
refused_ticket = 22

-- The memory is shorter than 16 problems of 16,394 bytes.
abbrev pub refused_memory : ℕ
refused_memory = 23

-- Document 02, 2.13: the shift is above 0.
abbrev pub refused_shift : ℕ
refused_shift = 24

-- A plan breaks a rule.
abbrev pub refused_rule : ℕ
refused_rule = 25

-- A merged stamp would be below −6,000,000.
abbrev pub refused_early : ℕ
refused_early = 26

-- ---- a census (document 02, 2.14)

-- The most problems that a census counts.
abbrev pub census_most : ℕ
census_most = 65536

-- Its refusal: "w is 0 or above 20,160, n or m is beyond its limit, or the total is above 65,536".
abbrev pub refused_census : ℕ
refused_census = 27
