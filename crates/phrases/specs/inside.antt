-- How the code goes: what only functions that are not exported promise. A reader who believes the rest of specs/ need not read these.
pub mod Ending
