-- Small facts that pin the numbers of the desk. Document 02, 2.11.
use mathlib.Core.Path.{◌≡◌, refl}
use Rattle.definitions.specs.Limits.{most_trials, problem_most, desk_places, desk_memory, desk_steps, last_ticket, refused_full, refused_ticket, refused_memory}

pub sixteen_places : desk_places ≡ 16
sixteen_places = refl

-- 16 problems of 16,394 bytes.
pub largest_problem : problem_most ≡ 16394
largest_problem = refl

pub memory_lent : desk_memory ≡ 262304
memory_lent = refl

-- 16 times 24 steps.
pub own_most : most_trials ≡ 24
own_most = refl

pub steps_most : desk_steps ≡ 384
steps_most = refl

-- 2⁶⁴ − 1.
pub ticket_most : last_ticket ≡ 18446744073709551615
ticket_most = refl

pub full_number : refused_full ≡ 21
full_number = refl

pub ticket_number : refused_ticket ≡ 22
ticket_number = refl

pub memory_number : refused_memory ≡ 23
memory_number = refl
