mod CodeLaws
mod JudgeLaws
