mod Reports
mod Rising
