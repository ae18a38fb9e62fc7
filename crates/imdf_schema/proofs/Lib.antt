mod Names
mod RuleNumbers
